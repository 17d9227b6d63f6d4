use Rattle.std.proofs.Common.{◌≡◌, suc, ◌-◌, sym, ap, ◌∙◌, arith}
use Rattle.vfs_tree.specs.Layers.{on_of}
use Rattle.vfs_paths.proofs.Outcomes.{answers}
use Rattle.vfs_paths.proofs.CrossingLaws.{left_more}
use Rattle.vfs_paths.proofs.crossing.+leave_within.Goals as goal

pub returns-in_ok-on-in-Some : goal.returns-in_ok-on-in-Some
returns-in_ok-on-in-Some g t c =
    let f = g.V.NameView.facts c.args.view.now in
    let more : c.args.steps ≡ suc (c.args.steps - 1) = omega arith in
    let covers = c.in-Some.ensures ∙ ap (on_of f) c.mount.ensures in
    answers c.leave_within.result _ _ (left_more f _ _ _ _ _ more (sym c.is_left.ensures ∙ (cc)) covers c.in_ok-on-in-Some.ensures) c.leave_within.ensures
