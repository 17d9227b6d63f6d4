use Rattle.std.proofs.Common.{◌||◌, ap, sym, ◌∙◌}
use Rattle.std.specs.List.{filter_map}
use Rattle.finite_maps.proofs.EntryLaws.{entries-empty}
use Rattle.vfs_tree.specs.Name.{name_cmp}
use Rattle.vfs_tree.specs.Visible.{given_name, given_names, names_at}
use Rattle.plain_views.specs.Hidden.{any_unhidden}
use Rattle.plain_views.proofs.hidden.has_unhidden_at.Goals as goal

pub returns-in-None : goal.returns-in-None
returns-in-None c =
    ap (λ es. any_unhidden c.args.world.now c.args.above.now (filter_map given_name es)) (sym (entries-empty name_cmp))
    ∙ ap (λ names. any_unhidden c.args.world.now c.args.above.now (given_names names)) c.in-None.ensures.names
    ∙ ap (λ found. found || any_unhidden c.args.world.now c.args.above.now (given_names (names_at c.args.world.now c.args.store c.args.dir))) (sym c.if-found.false)
