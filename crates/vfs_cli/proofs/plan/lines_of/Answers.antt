use Rattle.std.proofs.Common.{◌≡◌, ℕ, refl, sym, subst, ◌∙◌, vec_len}
use Rattle.std.specs.List.{AllByRecursion}
use Rattle.call_model.specs.declared.call.Line.{Line}
use Rattle.vfs_cli.specs.Workers.{IsUpTo}
use Rattle.vfs_cli.proofs.PlanLaws.{listed_all, listed_next, no_items}
use Rattle.vfs_cli.proofs.plan.lines_of.Goals as goal

pub loop-plan-preserved : goal.loop-plan-preserved
loop-plan-preserved c =
    listed_next c.args.plans.items _ _ c.loop-plan.caller _ _ _ c.in-Some.plan c.loop-plan.invariant c.in-Some.ensures.steps.0 refl c.in_ok-put_lines.ensures

pub returns-clause-callers : goal.returns-clause-callers
returns-clause-callers c =
    let rest = c.loop-plan.plan-iterator.rest in
    let all : c.loop-plan.caller ≡ vec_len c.args.plans =
    listed_all c.args.plans.items rest.items c.loop-plan.caller c.loop-plan.lines.items c.loop-plan.invariant (no_items rest.items (sym rest.ok.0 ∙ c.in-None.ensures.steps.0)) ∙ sym c.args.plans.ok.0
    in
    subst (λ (n : ℕ). AllByRecursion (λ (l : Line). IsUpTo n l.caller) c.loop-plan.lines.items) all c.loop-plan.invariant.callers
