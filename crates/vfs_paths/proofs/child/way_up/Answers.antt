use Rattle.std.proofs.Common.{Bor, map, reverse, sym, ap, ◌∙◌, arith}
use Rattle.vfs_tree.specs.declared.name.Name.{Name}
use Rattle.vfs_paths.proofs.Lists.{last_first}
use Rattle.vfs_paths.proofs.Steps.{step_left, no_step_left}
use Rattle.vfs_paths.proofs.Way.{way_here, way_over, way_unnamed, way_more, way_end}
use Rattle.vfs_paths.proofs.child.way_up.Goals as goal

pub returns-then-at-upper : goal.returns-then-at-upper
returns-then-at-upper g c = sym (way_here _ _ _ _ _ _ _ (step_left c.loop-passed._passed (omega arith)) c.if-at-upper.true) ∙ c.loop-passed.invariant

pub returns-then-ends_way : goal.returns-then-ends_way
returns-then-ends_way g c =
    sym (way_over _ _ _ _ _ _ _ (step_left c.loop-passed._passed (omega arith)) c.if-at-upper.false (sym c.ends_way.ensures ∙ c.if-ends_way.true))
    ∙ c.loop-passed.invariant

pub returns-in-None : goal.returns-in-None
returns-in-None g c =
    sym (way_unnamed _ _ _ _ _ _ _ (step_left c.loop-passed._passed (omega arith)) c.if-at-upper.false (sym c.ends_way.ensures ∙ c.if-ends_way.false) (sym c.in-None.ensures))
    ∙ c.loop-passed.invariant

pub loop-passed-preserved : goal.loop-passed-preserved
loop-passed-preserved g c =
    way_more _ _ _ _ _ _ _ _ _ _ _ (step_left c.loop-passed._passed (omega arith)) c.if-at-upper.false (sym c.ends_way.ensures ∙ c.if-ends_way.false) (sym c.in-Some.ensures)
    c.parent_ino-at.ensures
    (ap (λ xs. reverse (map (λ (n : Bor Name). n.now) xs)) c.in_ok-push-in-Some.ensures.items ∙ last_first (λ (n : Bor Name). n.now) c.loop-passed.names.items c.in-Some.name)
    c.loop-passed.invariant

pub returns : goal.returns
returns g c = sym (way_end _ _ _ _ _ _ (no_step_left c.loop-passed._passed (omega arith))) ∙ c.loop-passed.invariant
