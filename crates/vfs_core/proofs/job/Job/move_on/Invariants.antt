use Rattle.std.proofs.Common.{◌≡◌}
use Rattle.vfs_core.specs.Kernel.{work}
use Rattle.vfs_core.specs.Turning.{Runs, calls_left}
use Rattle.vfs_core.proofs.job.Job.move_on.Given as goal

abbrev pub invariant-loop : goal.invariant-loop
invariant-loop l = Runs l.fn.self l.self × (calls_left l.self ≡ calls_left l.fn.self)

abbrev pub decreases-loop : goal.decreases-loop
decreases-loop l = work l.self.kern
