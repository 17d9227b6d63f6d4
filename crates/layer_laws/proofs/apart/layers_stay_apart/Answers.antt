use Rattle.layer_laws.proofs.ApartLaws.{apart_start, apart_needed, apart_call, apart_history, apart_from_start}
use Rattle.layer_laws.proofs.apart.layers_stay_apart.Goals as goal

pub returns-clause-start : goal.returns-clause-start
returns-clause-start c = apart_start

pub returns-clause-needed : goal.returns-clause-needed
returns-clause-needed c = apart_needed

pub returns-clause-call : goal.returns-clause-call
returns-clause-call c = apart_call

pub returns-clause-history : goal.returns-clause-history
returns-clause-history c = apart_from_start

pub returns-clause-history_on : goal.returns-clause-history_on
returns-clause-history_on c = apart_history
