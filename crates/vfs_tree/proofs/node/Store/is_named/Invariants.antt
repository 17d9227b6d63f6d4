use Rattle.std.proofs.Common.{◌≡◌, map}
use Rattle.std.specs.List.{list_any}
use Rattle.std.specs.FinMap.{values}
use Rattle.vfs_tree.specs.Views.{gives_in}
use Rattle.vfs_tree.proofs.node.Store.is_named.Given as goal

-- the nodes that are left answer for all
abbrev pub invariant-loop-number : goal.invariant-loop-number
invariant-loop-number l =
    (goal.iterator-loop-number).can_next l._number-iterator ×
    (goal.iterator-loop-number).is_finite l._number-iterator ×
    (list_any (gives_in l.ino) (values l.self.nodes) ≡ list_any (gives_in l.ino) (map (λ e. e.1) l._number-iterator))
