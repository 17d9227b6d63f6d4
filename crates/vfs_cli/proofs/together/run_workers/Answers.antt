use Rattle.std.proofs.Common.{◌≡◌, ℕ, ◌++◌, length, take, drop, ap, sym, subst, ◌∙◌}
use Rattle.std.specs.Prelude.{All, is_some}
use Rattle.vfs_tree.specs.declared.limits.Limits.{Limits}
use Rattle.vfs_core.specs.Seats.{IsSeatOf}
use Rattle.vfs_cli.specs.Workers.{AreWorkers, HasGathered, IsUpTo}
use Rattle.vfs_cli.specs.declared.worker.Worker.{Worker}
use Rattle.vfs_cli.proofs.PlanLaws.{caller_up, up_caller}
use Rattle.vfs_cli.proofs.WorkerLaws.{closed_calls, done_workers, workers_own, written_back}
use Rattle.vfs_cli.proofs.together.run_workers.Goals as goal

pub gather-seat-requires-clause-own : goal.gather-seat-requires-clause-own
gather-seat-requires-clause-own g c =
    let vfs = c.in_ok-vfs.vfs in
    let done : AreWorkers vfs c.args.plans.items c.work_all.new.workers =
    done_workers vfs c.args.plans.items c.hire.new.workers.items c.deref_mut.result.now c.work_all.new.workers c.hire.ensures.workers c.deref_mut.ensures.value c.work_all.ensures.count c.work_all.ensures.worked
    in
    let back : take c.hire.new.workers.len (c.work_all.new.workers ++ drop (length c.work_all.new.workers) c.hire.new.workers.items) ≡ c.work_all.new.workers =
    written_back c.hire.new.workers.len c.hire.new.workers.items c.work_all.new.workers c.hire.new.workers.ok.0 (c.work_all.ensures.count ∙ ap length c.deref_mut.ensures.value)
    in
    subst (All (λ (x : Worker). IsSeatOf vfs x.seat)) (sym back) (workers_own vfs c.args.plans.items c.work_all.new.workers done)

pub close-requires-clause-all : goal.close-requires-clause-all
close-requires-clause-all g c =
    let vfs = c.in_ok-vfs.vfs in
    let done : AreWorkers vfs c.args.plans.items c.work_all.new.workers =
    done_workers vfs c.args.plans.items c.hire.new.workers.items c.deref_mut.result.now c.work_all.new.workers c.hire.ensures.workers c.deref_mut.ensures.value c.work_all.ensures.count c.work_all.ensures.worked
    in
    let back : take c.hire.new.workers.len (c.work_all.new.workers ++ drop (length c.work_all.new.workers) c.hire.new.workers.items) ≡ c.work_all.new.workers =
    written_back c.hire.new.workers.len c.hire.new.workers.items c.work_all.new.workers c.hire.new.workers.ok.0 (c.work_all.ensures.count ∙ ap length c.deref_mut.ensures.value)
    in
    let gathered : HasGathered vfs c.args.plans.items c.hire.new.workers.len c.gather-seat.result c.gather-seat.new.plans.items =
    c.gather-seat.ensures.gathered c.args.plans.items (sym c.args.plans.ok.0 ∙ sym c.hire.ensures.count) (subst (AreWorkers vfs c.args.plans.items) (sym back) done)
    in
    let all : c.hire.new.workers.len ≡ vfs.limits.callers = c.hire.ensures.count ∙ c.requires.plans ∙ ap (λ (l : Limits). l.callers) (sym c.in_ok-vfs.ensures.limits) in
    λ n caller. ap is_some (gathered.calls n (caller_up vfs.limits c.hire.new.workers.len n all caller)).1

pub returns-clause-calls : goal.returns-clause-calls
returns-clause-calls g c =
    let vfs = c.in_ok-vfs.vfs in
    let done : AreWorkers vfs c.args.plans.items c.work_all.new.workers =
    done_workers vfs c.args.plans.items c.hire.new.workers.items c.deref_mut.result.now c.work_all.new.workers c.hire.ensures.workers c.deref_mut.ensures.value c.work_all.ensures.count c.work_all.ensures.worked
    in
    let back : take c.hire.new.workers.len (c.work_all.new.workers ++ drop (length c.work_all.new.workers) c.hire.new.workers.items) ≡ c.work_all.new.workers =
    written_back c.hire.new.workers.len c.hire.new.workers.items c.work_all.new.workers c.hire.new.workers.ok.0 (c.work_all.ensures.count ∙ ap length c.deref_mut.ensures.value)
    in
    let gathered : HasGathered vfs c.args.plans.items c.hire.new.workers.len c.gather-seat.result c.gather-seat.new.plans.items =
    c.gather-seat.ensures.gathered c.args.plans.items (sym c.args.plans.ok.0 ∙ sym c.hire.ensures.count) (subst (AreWorkers vfs c.args.plans.items) (sym back) done)
    in
    let all : c.hire.new.workers.len ≡ vfs.limits.callers = c.hire.ensures.count ∙ c.requires.plans ∙ ap (λ (l : Limits). l.callers) (sym c.in_ok-vfs.ensures.limits) in (
      c.gather-seat.new.plans.ok.0 ∙ gathered.count ∙ c.hire.ensures.count,
      λ d up. closed_calls vfs c.args.plans.items c.gather-seat.new.plans.items c.hire.new.workers.len c.gather-seat.result c.close.result.history gathered
          (λ e u. c.close.ensures.calls e (up_caller vfs.limits c.hire.new.workers.len e all u)) d (subst (λ (n : ℕ). IsUpTo n d) (sym c.hire.ensures.count) up),
    )
