use Rattle.std.proofs.Common.{◌≡◌, map}
use Rattle.std.specs.Prelude.{◌==◌, ◌&&◌, not}
use Rattle.std.specs.List.{list_any}
use Rattle.std.specs.FinMap.{values}
use Rattle.vfs_tree.specs.Place.{mount_of}
use Rattle.plain_views.proofs.references.is_open_in.Given as goal

-- those that are left answer for all
abbrev pub invariant-loop-key : goal.invariant-loop-key
invariant-loop-key l =
    (goal.iterator-loop-key).can_next l._key-iterator ×
    (goal.iterator-loop-key).is_finite l._key-iterator ×
    (list_any (λ o. not o.dead && (mount_of o.place == l.mount)) (values l.world.opens) ≡ list_any (λ o. not o.dead && (mount_of o.place == l.mount)) (map (λ e. e.1) l._key-iterator))
