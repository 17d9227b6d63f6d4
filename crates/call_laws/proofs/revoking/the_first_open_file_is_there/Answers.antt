use Rattle.call_laws.proofs.RevokeLaws.{open_there, live_open}
use Rattle.call_laws.proofs.revoking.the_first_open_file_is_there.Goals as goal

pub returns-clause-there : goal.returns-clause-there
returns-clause-there c = open_there

pub returns-clause-live : goal.returns-clause-live
returns-clause-live c = live_open
