use Rattle.trace_text.proofs.Given.{number_known}
use Rattle.trace_text.proofs.trees.add_names.Goals as goal

pub loop-entry-preserved-in_ok-insert : goal.loop-entry-preserved-in_ok-insert
loop-entry-preserved-in_ok-insert c =
    (tt, tt, λ ino. number_known _ _ _ _ _ _ _ ino _ c.in-Some.ensures.steps c.in-Ino.is c.in_ok-insert.ensures.ok (c.loop-entry.invariant.2 ino))
