use Rattle.std.proofs.Common.{◌≡◌, ◌∙◌, ◌++◌, List, [], ℕ, sym, subst}
use Rattle.std.specs.List.{AllByRecursion}
use Rattle.vfs_tree.specs.Limits.{IsCaller}
use Rattle.call_model.specs.declared.call.Line.{Line}
use Rattle.vfs_core.specs.Turning.{HasLeft, lines_of}
use Rattle.vfs_core.proofs.TurnLaws.{lines_start, lines_next, lines_end, next_fits, runs_more, no_items, on_ok}
use Rattle.vfs_core.proofs.job.Job.run_order.Goals as goal

pub loop-caller-init : goal.loop-caller-init
loop-caller-init c =
    let all = c.into_iter-caller-iterator.ensures.into_iter_gives.0 in
    let fits = subst (λ (x : List ℕ). AllByRecursion (IsCaller c.args.self.now.kern.limits) x) (sym all) c.in_ok-callers.ensures.fits in
    lines_start c.args.self.now _ (all ∙ c.in_ok-callers.ensures.callers) fits

pub run_line-requires : goal.run_line-requires
run_line-requires c = next_fits c.in-Some.caller _ _ c.args.self.now c.loop-caller.self c.loop-caller.invariant c.in-Some.ensures.steps.0

pub loop-caller-preserved : goal.loop-caller-preserved
loop-caller-preserved c =
    lines_next c.in-Some.caller _ _ c.args.self.now c.loop-caller.self c.run_line.new.self c.loop-caller.invariant c.in-Some.ensures.steps.0 c.run_line.ensures.runs c.in_ok-run_line.ensures.line

pub returns-clause-runs : goal.returns-clause-runs
returns-clause-runs c = runs_more _ _ _ c.loop-caller.invariant.runs c.run_seed.ensures.runs

pub returns-clause-ordered : goal.returns-clause-ordered
returns-clause-ordered c =
    let rest = c.loop-caller.caller-iterator.rest in
    let all : rest.items ≡ [] = no_items rest.items (sym rest.ok.0 ∙ c.in-None.ensures.steps.0) in
    let ordered : (lines : List Line) → HasLeft lines c.args.self.now → lines_of c.run_seed.new.self.kern.history ≡ lines_of c.args.self.now.kern.history ++ lines = λ lines h.
    lines_end rest.items c.args.self.now c.loop-caller.self c.run_seed.new.self c.loop-caller.invariant all c.run_seed.ensures.runs lines h
    in
    on_ok c.run_seed.result _ ordered
