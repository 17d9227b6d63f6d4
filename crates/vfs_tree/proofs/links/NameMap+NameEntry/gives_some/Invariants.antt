use Rattle.std.proofs.Common.{◌≡◌, map}
use Rattle.std.specs.List.{list_any}
use Rattle.std.specs.FinMap.{values}
use Rattle.vfs_tree.specs.Counts.{gives_node}
use Rattle.vfs_tree.proofs.links.NameMap+NameEntry.gives_some.Given as goal

-- the names that are left answer for all
abbrev pub invariant-loop-name : goal.invariant-loop-name
invariant-loop-name l =
    (goal.iterator-loop-name).can_next l._name-iterator ×
    (goal.iterator-loop-name).is_finite l._name-iterator ×
    (list_any gives_node (values l.self) ≡ list_any gives_node (map (λ e. e.1) l._name-iterator))
