use Rattle.vfs_core.specs.Turning.{Runs, calls_left}
use Rattle.vfs_core.proofs.job.Job.run_seed.Given as goal

abbrev pub invariant-loop : goal.invariant-loop
invariant-loop l = Runs l.fn.self l.self

abbrev pub decreases-loop : goal.decreases-loop
decreases-loop l = calls_left l.self
