use Rattle.trace_text.proofs.Callers.{caller_known}
use Rattle.trace_text.proofs.summary.add_caller.Goals as goal

pub returns-in_ok-insert : goal.returns-in_ok-insert
returns-in_ok-insert c q = caller_known _ _ _ _ _ _ q c.in-Call.is c.in_ok-insert.ensures.ok
