use Rattle.std.proofs.Common.{◌≡◌, map}
use Rattle.std.specs.Prelude.{◌&&◌, not}
use Rattle.std.specs.List.{list_any}
use Rattle.std.specs.FinMap.{values}
use Rattle.vfs_tree.specs.Carriers.{is_on_node}
use Rattle.vfs_tree.specs.Mounts.{is_left}
use Rattle.vfs_tree.specs.Views.{facts_of}
use Rattle.plain_views.proofs.carriers.is_busy.Given as goal

-- those that are left answer for all
abbrev pub invariant-loop-number : goal.invariant-loop-number
invariant-loop-number l =
    (goal.iterator-loop-number).can_next l._number-iterator ×
    (goal.iterator-loop-number).is_finite l._number-iterator ×
    (list_any (λ t. is_on_node (facts_of l.world) l.node t.on && not (is_left l.world.leaving t.number)) (values l.world.mounts) ≡ list_any (λ t. is_on_node (facts_of l.world) l.node t.on && not (is_left l.world.leaving t.number)) (map (λ e. e.1) l._number-iterator))
