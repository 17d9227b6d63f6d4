use Rattle.call_laws.proofs.RevokeLaws.{revoking_row}
use Rattle.call_laws.proofs.revoking.a_revoke_dooms_the_first_open_file.Goals as goal

pub returns : goal.returns
returns c = record { row = revoking_row }
