use Rattle.open_laws.proofs.DoomLaws.{doomed_top, history_top}
use Rattle.open_laws.proofs.dooms.what_a_reference_stands_on_outlives_it.Goals as goal

pub returns-clause-call : goal.returns-clause-call
returns-clause-call c = doomed_top

pub returns-clause-history : goal.returns-clause-history
returns-clause-history c = history_top
