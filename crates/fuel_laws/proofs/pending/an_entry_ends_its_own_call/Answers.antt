use Rattle.std.proofs.Common.{refl}
use Rattle.call_model.proofs.HistoryLaws.{legal-answer, legal-inner}
use Rattle.fuel_laws.proofs.PendingLaws.{ended_own, ended_others, before_own, before_others}
use Rattle.fuel_laws.proofs.pending.an_entry_ends_its_own_call.Goals as goal

pub returns-clause-own : goal.returns-clause-own
returns-clause-own c = ended_own

pub returns-clause-others : goal.returns-clause-others
returns-clause-others c = ended_others

pub returns-clause-inner : goal.returns-clause-inner
returns-clause-inner c = λ p c x. refl

pub returns-clause-answered : goal.returns-clause-answered
returns-clause-answered c = λ p w new es c call r legal is may. legal-answer p w new es c call r legal is may

pub returns-clause-needed : goal.returns-clause-needed
returns-clause-needed c = λ p w es c call x legal is needs. legal-inner p w es c call x legal is needs

pub returns-clause-first : goal.returns-clause-first
returns-clause-first c = before_own

pub returns-clause-behind : goal.returns-clause-behind
returns-clause-behind c = before_others

pub returns-clause-behind_inner : goal.returns-clause-behind_inner
returns-clause-behind_inner c = λ p es c x. refl
