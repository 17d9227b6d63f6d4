use Rattle.call_model.proofs.HistoryLaws.{legal-begin, legal-answer, legal-inner, replay-answer, replay-inner}
use Rattle.call_model.proofs.laws.legal_histories_grow.Goals as goal

pub returns-clause-begun : goal.returns-clause-begun
returns-clause-begun c = legal-begin

pub returns-clause-answered : goal.returns-clause-answered
returns-clause-answered c = legal-answer

pub returns-clause-left : goal.returns-clause-left
returns-clause-left c = replay-answer

pub returns-clause-needed : goal.returns-clause-needed
returns-clause-needed c = legal-inner

pub returns-clause-done : goal.returns-clause-done
returns-clause-done c = replay-inner
