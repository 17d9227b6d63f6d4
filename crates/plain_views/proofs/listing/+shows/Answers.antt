use Rattle.std.proofs.Common.{ap, sym, ◌∙◌, arith}
use Rattle.vfs_tree.specs.PlaceView.{seen}
use Rattle.plain_views.proofs.ListingLaws.{shows_below, shows_at, shows_null}
use Rattle.plain_views.proofs.listing.+shows.Goals as goal

pub has_visible_union-returns-in_ok-has_visible_within-in-At : goal.has_visible_union-returns-in_ok-has_visible_within-in-At
has_visible_union-returns-in_ok-has_visible_within-in-At t c =
    shows_below c.args.world.now _ _ _ _ c.args.above.items _ _ c.args.found _ _ _ _ c.in_ok-place.ensures c.in-At.is c.upper_store-store.ensures c.deref.ensures.value c.has_unhidden_at-shows.ensures c.in_ok-push-in-At.ensures.items c.in_ok-has_visible_within-in-At.ensures

pub has_visible_within-returns-in_ok-has_visible_within-in-Null : goal.has_visible_within-returns-in_ok-has_visible_within-in-Null
has_visible_within-returns-in_ok-has_visible_within-in-Null t c =
    shows_null c.args.world.now c.args.above.items c.args.found _ _ _ _ _ _ _ (omega (arith, c.if-steps-eq0.false)) (ap seen (sym c.in-Null.is) ∙ c.place.view_is) c.deref-in-Null.ensures c.in_ok-has_visible_within-in-Null.ensures

pub has_visible_within-returns-in_ok-has_visible_union-in-UnionUp : goal.has_visible_within-returns-in_ok-has_visible_union-in-UnionUp
has_visible_within-returns-in_ok-has_visible_union-in-UnionUp t c =
    shows_at c.args.world.now c.args.above.items c.args.found _ _ _ _ _ (omega (arith, c.if-steps-eq0.false)) (ap seen (sym c.in-UnionUp.is) ∙ c.place.view_is) c.in_ok-has_visible_union-in-UnionUp.ensures
