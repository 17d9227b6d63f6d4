use Rattle.vfs_core.specs.Filling.{IsFilled}
use Rattle.vfs_core.proofs.job.Job.new.Given as goal

abbrev pub invariant-loop-line : goal.invariant-loop-line
invariant-loop-line l = IsFilled l.fn.kern.limits l.left l.order.items l.fn.calls.items l.line-iterator.rest.items
