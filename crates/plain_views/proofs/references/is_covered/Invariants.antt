use Rattle.std.proofs.Common.{◌≡◌, map}
use Rattle.std.specs.List.{list_any}
use Rattle.std.specs.FinMap.{values}
use Rattle.vfs_tree.specs.Mounts.{covers_in, is_of}
use Rattle.plain_views.proofs.references.is_covered.Given as goal

-- those that are left answer for all
abbrev pub invariant-loop-number : goal.invariant-loop-number
invariant-loop-number l =
    (goal.iterator-loop-number).can_next l._number-iterator ×
    (goal.iterator-loop-number).is_finite l._number-iterator ×
    (list_any (covers_in l.world.leaving (is_of l.world.mounts l.mount)) (values l.world.mounts) ≡ list_any (covers_in l.world.leaving (is_of l.world.mounts l.mount)) (map (λ e. e.1) l._number-iterator))
