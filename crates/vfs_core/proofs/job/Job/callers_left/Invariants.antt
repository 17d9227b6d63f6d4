use Rattle.std.proofs.Common.{drop}
use Rattle.vfs_core.specs.Turning.{owed, IsSought}
use Rattle.vfs_core.proofs.job.Job.callers_left.Given as goal

abbrev pub invariant-loop-at : goal.invariant-loop-at
invariant-loop-at l = IsSought (owed l.self) l.callers.items l.later (drop l.at l.self.order)
