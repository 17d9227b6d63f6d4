use Rattle.std.proofs.Common.{◌≡◌, suc, ◌-◌, true, sym, ap, ◌∙◌, arith}
use Rattle.std.specs.Prelude.{None}
use Rattle.std.proofs.lemmas.Grind.{common_steps}
use Rattle.vfs_tree.specs.PlaceView.{seen}
use Rattle.vfs_tree.specs.Child.{child_within, steps}
use Rattle.vfs_tree.specs.Layers.{is_linked}
use Rattle.vfs_paths.proofs.Outcomes.{answers}
use Rattle.vfs_paths.proofs.Below.{child_more, null_shown, low_union}
use Rattle.vfs_paths.proofs.Way.{low_by_way}
use Rattle.vfs_paths.proofs.child.+child.Goals as goal

pub child_within-returns-in_ok-below-in-Null : goal.child_within-returns-in_ok-below-in-Null
child_within-returns-in_ok-below-in-Null g t c =
    let f = g.V.NameView.facts c.args.view.now in
    let more : c.args.mounts ≡ suc (c.args.mounts - 1) = omega arith in
    answers c.child_null.result _ _ (null_shown f _ _ _ _ _ _ _ _ more (ap seen (sym c.in-Null.is) ∙ c.dir.view_is) (cc) c.in_ok-below-in-Null.ensures)
    c.child_null.ensures

pub child_within-returns-in-UnionUp : goal.child_within-returns-in-UnionUp
child_within-returns-in-UnionUp g t c =
    let f = g.V.NameView.facts c.args.view.now in
    let more : c.args.mounts ≡ suc (c.args.mounts - 1) = omega arith in
    answers c.child_union.result _ _ (child_more f _ _ _ _ _ more (ap seen (sym c.in-UnionUp.is) ∙ c.dir.view_is)) c.child_union.ensures

pub low_within-returns-in-Some-2 : goal.low_within-returns-in-Some-2
low_within-returns-in-Some-2 g t c =
    let f = g.V.NameView.facts c.args.view.now in
    let look = child_within c.args.mounts f in
    let linked : is_linked f c.in-Union.store c.args.dir ≡ true = grind (arith, common_steps) in
    answers c.down.result _ _
    (low_by_way steps f look _ _ _ _ _ (rw c.in-Some-2.is at c.in_ok-way-in-Union.ensures) ∙ low_union f look _ _ _ _ _ _ c.in-Some.ensures c.in-Union.is linked)
    c.down.ensures

pub low_within-returns-in-None-2 : goal.low_within-returns-in-None-2
low_within-returns-in-None-2 g t c =
    let f = g.V.NameView.facts c.args.view.now in
    let look = child_within c.args.mounts f in
    let linked : is_linked f c.in-Union.store c.args.dir ≡ true = grind (arith, common_steps) in
    low_by_way steps f look _ _ _ _ None (rw c.in-None-2.is at c.in_ok-way-in-Union.ensures) ∙ low_union f look _ _ _ _ _ _ c.in-Some.ensures c.in-Union.is linked
