use Rattle.std.proofs.Common.{◌≡◌, ◌<◌, ◌≤◌, ℕ, cond, length, ap, subst, ◌∙◌}
use Rattle.std.specs.Prelude.{None, nat_eq}
use Rattle.vfs_core.specs.Seats.{made}
use Rattle.vfs_cli.proofs.WorkerLaws.{hiring_one, hired_all}
use Rattle.vfs_cli.proofs.together.hire.Goals as goal

pub loop-seat-preserved : goal.loop-seat-preserved
loop-seat-preserved c =
    let n : c.len-in-loop-seat.result ≡ length c.loop-seat.plans.items = c.len-in-loop-seat.ensures ∙ c.loop-seat.plans.ok.0 in
    let m : c.len.result ≡ length c.loop-seat.plans.items = c.len.ensures ∙ c.loop-seat.plans.ok.0 in
    let test : 1 < c.len.result = c.loop-seat-test.true in
    let more : 1 < length c.loop-seat.plans.items = subst (λ (k : ℕ). 1 < k) m test in
    let h = c.hire_one.ensures.hired in (
      hiring_one c.args.vfs.now c.args.plans.now.items c.loop-seat.seat c.split-own.new.seat c.split-own.result c.loop-seat.plans.items c.hire_one.new.plans.items c.loop-seat.workers.items c.hire_one.new.workers.items h.0
          c.loop-seat.invariant.0 more c.split-own.ensures.own.0 c.split-own.ensures.own.1 c.split-own.ensures.caller.1 (c.split-own.ensures.caller.0 ∙ n)
          (λ d. c.split-own.ensures.kept d ∙ ap (λ (k : ℕ). cond (nat_eq d k) None (made d c.loop-seat.seat)) n)
          (λ d. c.split-own.ensures.given d ∙ ap (λ (k : ℕ). cond (nat_eq d k) (made d c.loop-seat.seat) None) n)
          h.1 h.2,
      c.hire_one.ensures.plans_room ∙ c.loop-seat.invariant.1,
      c.hire_one.ensures.workers_room ∙ c.loop-seat.invariant.2,
    )

pub returns-clause-workers : goal.returns-clause-workers
returns-clause-workers c =
    let m : c.len.result ≡ length c.loop-seat.plans.items = c.len.ensures ∙ c.loop-seat.plans.ok.0 in
    let test : c.len.result ≤ 1 = c.loop-seat-test.false in
    let few : length c.loop-seat.plans.items ≤ 1 = subst (λ (k : ℕ). k ≤ 1) m test in
    let h = c.hire_one-2.ensures.hired in
    (hired_all c.args.vfs.now c.args.plans.now.items c.loop-seat.seat c.loop-seat.plans.items c.hire_one-2.new.plans.items c.loop-seat.workers.items c.hire_one-2.new.workers.items h.0 c.loop-seat.invariant.0 few h.1 h.2).are
