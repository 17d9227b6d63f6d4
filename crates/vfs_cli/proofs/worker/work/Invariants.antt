use Rattle.vfs_cli.specs.Workers.{Worked}
use Rattle.vfs_cli.proofs.worker.work.Given as goal

abbrev pub invariant-loop-call : goal.invariant-loop-call
invariant-loop-call g l = Worked l.vfs l.fn.worker l.worker
