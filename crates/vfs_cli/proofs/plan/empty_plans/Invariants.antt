use Rattle.std.proofs.Common.{◌≡◌, ℕ, [], vec_len}
use Rattle.vfs_cli.specs.Workers.{plan_at}
use Rattle.vfs_cli.proofs.plan.empty_plans.Given as goal

abbrev pub invariant-loop : goal.invariant-loop
invariant-loop l = (vec_len l.plans ≡ l.counter) × ((c : ℕ) → plan_at l.plans.items c ≡ [])
