use Rattle.vfs_core.specs.Turning.{RunsLines}
use Rattle.vfs_core.proofs.job.Job.run_order.Given as goal

abbrev pub invariant-loop-caller : goal.invariant-loop-caller
invariant-loop-caller l = RunsLines l.caller-iterator.rest.items l.fn.self l.self
