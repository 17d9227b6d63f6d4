use Rattle.std.proofs.Common.{◌≡◌, vec_capacity}
use Rattle.vfs_cli.proofs.WorkerLaws.{Gathering}
use Rattle.vfs_cli.proofs.together.gather.Given as goal

abbrev pub invariant-loop-worker : goal.invariant-loop-worker
invariant-loop-worker l = Gathering l.vfs l.fn.workers.items l.seat l.workers.items l.plans.items × (vec_capacity l.plans ≡ vec_capacity l.fn.plans)

abbrev pub decreases-loop-worker : goal.decreases-loop-worker
decreases-loop-worker l = goal.left-loop-worker l
