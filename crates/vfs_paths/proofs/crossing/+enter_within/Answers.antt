use Rattle.std.proofs.Common.{◌≡◌, suc, ◌-◌, false, not, arith}
use Rattle.std.specs.Prelude.{◌&&◌}
use Rattle.vfs_tree.specs.Layers.{is_cut}
use Rattle.vfs_paths.proofs.Outcomes.{answers}
use Rattle.vfs_paths.proofs.CrossingLaws.{entered_more}
use Rattle.vfs_paths.proofs.crossing.+enter_within.Goals as goal

pub returns-in_ok-root-in-Some : goal.returns-in_ok-root-in-Some
returns-in_ok-root-in-Some g t c =
    let f = g.V.NameView.facts c.args.view.now in
    let more : c.args.steps ≡ suc (c.args.steps - 1) = omega arith in
    let enters : (not c.args.into_cut && is_cut f c.in-Some.mount) ≡ false = cc in
    answers c.enter_within.result _ _ (entered_more f _ _ _ c.args.into_cut _ _ more c.in-Some.ensures enters c.in_ok-root-in-Some.ensures)
    c.enter_within.ensures
