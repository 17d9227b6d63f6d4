use Rattle.std.proofs.Common.{◌≡◌, map}
use Rattle.std.specs.Prelude.{◌==◌, ◌||◌}
use Rattle.std.specs.List.{list_any}
use Rattle.std.specs.FinMap.{values}
use Rattle.vfs_tree.specs.Mounts.{covers_in, layers}
use Rattle.plain_views.proofs.references.is_mounted_in.Given as goal

-- those that are left answer for all
abbrev pub invariant-loop-number : goal.invariant-loop-number
invariant-loop-number l =
    (goal.iterator-loop-number).can_next l._number-iterator ×
    (goal.iterator-loop-number).is_finite l._number-iterator ×
    (list_any (λ t. covers_in l.world.leaving (λ n. n == l.mount) t || list_any (λ k. k == l.mount) (layers t.kind)) (values l.world.mounts) ≡ list_any (λ t. covers_in l.world.leaving (λ n. n == l.mount) t || list_any (λ k. k == l.mount) (layers t.kind)) (map (λ e. e.1) l._number-iterator))
