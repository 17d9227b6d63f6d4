use Rattle.std.proofs.Common.{◌≡◌, vec_capacity, vec_len}
use Rattle.vfs_cli.proofs.WorkerLaws.{Hiring}
use Rattle.vfs_cli.proofs.together.hire.Given as goal

abbrev pub invariant-loop-seat : goal.invariant-loop-seat
invariant-loop-seat l =
    Hiring l.vfs l.fn.plans.items l.seat l.plans.items l.workers.items × (vec_capacity l.plans ≡ vec_capacity l.fn.plans) × (vec_capacity l.workers ≡ vec_capacity l.fn.workers)

abbrev pub decreases-loop-seat : goal.decreases-loop-seat
decreases-loop-seat l = vec_len l.plans
