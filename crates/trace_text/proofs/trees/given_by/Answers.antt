use Rattle.std.proofs.Common.{◌∙◌}
use Rattle.trace_text.proofs.Given.{none_known}
use Rattle.trace_text.proofs.trees.given_by.Goals as goal

pub loop-node-init : goal.loop-node-init
loop-node-init c = (tt, tt, λ ino. none_known _ _ _ ino c.new-given.ensures (c.into_iter-node-iterator.ensures.into_iter_gives ∙ c.iter-node-items.ensures))
