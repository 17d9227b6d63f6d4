use Rattle.std.proofs.Common.{◌≡◌, ◌++◌}
use Rattle.std.specs.List.{filter_map}
use Rattle.vfs_tree.specs.Visible.{given_name, given_names}
use Rattle.plain_views.proofs.shown.given_names.Given as goal

-- the names so far, and those that are left
abbrev pub invariant-loop-name : goal.invariant-loop-name
invariant-loop-name l =
    (goal.iterator-loop-name).can_next l.name-iterator ×
    (goal.iterator-loop-name).is_finite l.name-iterator ×
    (l.given.items ++ filter_map given_name l.name-iterator ≡ given_names l.names)
