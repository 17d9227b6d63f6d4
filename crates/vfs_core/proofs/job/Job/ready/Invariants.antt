use Rattle.std.proofs.Common.{◌≡◌, ◌≤◌}
use Rattle.vfs_core.specs.Turning.{ready_to}
use Rattle.vfs_core.proofs.job.Job.ready.Given as goal

abbrev pub invariant-loop-before : goal.invariant-loop-before
invariant-loop-before l = (l.count ≡ ready_to l.self l.before) × (l.count ≤ l.before)
