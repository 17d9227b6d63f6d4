use Rattle.std.proofs.Common.{ap, sym, ◌∙◌, arith}
use Rattle.vfs_tree.specs.PlaceView.{seen}
use Rattle.plain_views.proofs.ListingLaws.{at_union}
use Rattle.plain_views.proofs.listing.+lower.Goals as goal

pub visible_within-returns-in_ok-visible_union-in-UnionUp : goal.visible_within-returns-in_ok-visible_union-in-UnionUp
visible_within-returns-in_ok-visible_union-in-UnionUp t c =
    at_union c.args.world.now _ _ _ _ _ _ (omega (arith, c.if-steps-eq0.false)) (ap seen (sym c.in-UnionUp.is) ∙ c.place.view_is) c.in_ok-visible_union-in-UnionUp.ensures
