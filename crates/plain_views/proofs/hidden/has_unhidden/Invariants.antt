use Rattle.std.proofs.Common.{◌≡◌}
use Rattle.std.specs.List.{filter_map}
use Rattle.vfs_tree.specs.Visible.{given_name, given_names}
use Rattle.plain_views.specs.Hidden.{any_unhidden}
use Rattle.plain_views.proofs.hidden.has_unhidden.Given as goal

-- the names that are left answer for all
abbrev pub invariant-loop-name : goal.invariant-loop-name
invariant-loop-name l =
    (goal.iterator-loop-name).can_next l.name-iterator ×
    (goal.iterator-loop-name).is_finite l.name-iterator ×
    (any_unhidden l.world l.above (given_names l.names) ≡ any_unhidden l.world l.above (filter_map given_name l.name-iterator))
