use Rattle.open_laws.proofs.JoinLaws.{copy_joins_none}
use Rattle.open_laws.proofs.opens.a_copy_joins_no_open_files.Goals as goal

pub returns : goal.returns
returns c = copy_joins_none
