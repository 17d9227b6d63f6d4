use Rattle.call_laws.proofs.RevokeLaws.{revoking_first}
use Rattle.call_laws.proofs.revoking.a_revoke_that_dooms_has_found_a_file.Goals as goal

pub returns : goal.returns
returns c = record { found = revoking_first }
