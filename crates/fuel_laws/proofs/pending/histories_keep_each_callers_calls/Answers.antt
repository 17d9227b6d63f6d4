use Rattle.fuel_laws.proofs.CallsLaws.{calls_joined, calls_own, calls_others, calls_inner}
use Rattle.fuel_laws.proofs.pending.histories_keep_each_callers_calls.Goals as goal

pub returns-clause-joined : goal.returns-clause-joined
returns-clause-joined c = calls_joined

pub returns-clause-own : goal.returns-clause-own
returns-clause-own c = calls_own

pub returns-clause-others : goal.returns-clause-others
returns-clause-others c = calls_others

pub returns-clause-inner : goal.returns-clause-inner
returns-clause-inner c = calls_inner
