use Rattle.std.proofs.Common.{◌≡◌, suc, ◌-◌, arith}
use Rattle.vfs_paths.proofs.Outcomes.{answers}
use Rattle.vfs_paths.proofs.WalkLaws.{link_followed}
use Rattle.vfs_paths.proofs.along.+links.Goals as goal

pub along-returns-else-links-eq0 : goal.along-returns-else-links-eq0
along-returns-else-links-eq0 g t c =
    let f = g.V.NameView.facts c.args.view.now in
    let more : c.args.links ≡ suc (c.args.links - 1) = omega arith in
    answers c.jump.result _ _ (link_followed f _ _ _ _ _ _ _ _ _ more c.in-Link.is c.in_ok-found.ensures) c.jump.ensures
