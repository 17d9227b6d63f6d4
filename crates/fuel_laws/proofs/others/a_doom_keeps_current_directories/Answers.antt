use Rattle.fuel_laws.proofs.OthersLaws.{cwd_doomed, cwd_doomed_at, none_doomed}
use Rattle.fuel_laws.proofs.others.a_doom_keeps_current_directories.Goals as goal

pub returns-clause-doom : goal.returns-clause-doom
returns-clause-doom c = cwd_doomed

pub returns-clause-doomed : goal.returns-clause-doomed
returns-clause-doomed c = cwd_doomed_at

pub returns-clause-none : goal.returns-clause-none
returns-clause-none c = none_doomed
