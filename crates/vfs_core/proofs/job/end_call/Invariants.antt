use Rattle.vfs_core.specs.Kernel.{work}
use Rattle.vfs_core.specs.Turning.{GoesOn}
use Rattle.vfs_core.proofs.job.end_call.Given as goal

abbrev pub invariant-loop : goal.invariant-loop
invariant-loop l = GoesOn l.fn.kern l.kern

abbrev pub decreases-loop : goal.decreases-loop
decreases-loop l = work l.kern
