use Rattle.layer_laws.proofs.LyingLaws.{lie_start, lie_needed, lie_call, lie_from_start, lie_history}
use Rattle.layer_laws.proofs.lying.layers_lie_over_lower_layers.Goals as goal

pub returns-clause-start : goal.returns-clause-start
returns-clause-start c = lie_start

pub returns-clause-needed : goal.returns-clause-needed
returns-clause-needed c = lie_needed

pub returns-clause-call : goal.returns-clause-call
returns-clause-call c = lie_call

pub returns-clause-history : goal.returns-clause-history
returns-clause-history c = lie_from_start

pub returns-clause-history_on : goal.returns-clause-history_on
returns-clause-history_on c = lie_history
