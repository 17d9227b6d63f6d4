use Rattle.std.proofs.Common.{ℕ, List, ap, sym, subst, ◌∙◌}
use Rattle.std.specs.List.{AllByRecursion}
use Rattle.call_model.specs.declared.call.Line.{Line}
use Rattle.vfs_core.specs.Kernel.{Kernel}
use Rattle.vfs_cli.specs.Workers.{ArePlans, IsUpTo}
use Rattle.vfs_cli.proofs.PlanLaws.{is_ahead, when_ok}
use Rattle.vfs_cli.proofs.together.job_left.Goals as goal

pub returns : goal.returns
returns g c =
    let plans = c.in_ok-plans.plans in
    let left = c.in_ok-kern-2.plans in
    let made = c.in_ok-kern-2.ensures.calls in
    when_ok c.new-2.result _ _ _
    (λ job is each.
    is_ahead c.args.script c.in_ok-kern-2.kern job plans.items left.items c.in_ok-lines.lines.items c.requires
    (subst (λ (ls : List Line). ArePlans c.args.script.limits.callers ls plans.items) c.into_vec.ensures c.in_ok-plans.ensures)
    (c.in_ok-kern-2.ensures.limits ∙ ap (λ (k : Kernel). k.limits) c.in_ok-kern.ensures)
    (sym left.ok.0 ∙ made.0 ∙ plans.ok.0)
    (λ d up. made.1 d (subst (λ (n : ℕ). IsUpTo n d) (sym plans.ok.0) up))
    c.history-history.ensures.callers
    (λ d up. c.in_ok-lines.ensures.calls d (subst (λ (n : ℕ). IsUpTo n d) (sym left.ok.0) up))
    (subst (λ (n : ℕ). AllByRecursion (λ (l : Line). IsUpTo n l.caller) c.in_ok-lines.lines.items) left.ok.0 c.in_ok-lines.ensures.callers)
    is each)
    c.new-2.ensures.kern c.new-2.ensures.each_call
