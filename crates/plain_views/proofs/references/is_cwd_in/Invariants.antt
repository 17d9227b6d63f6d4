use Rattle.std.proofs.Common.{◌≡◌, map}
use Rattle.std.specs.Prelude.{◌==◌, ◌&&◌, not}
use Rattle.std.specs.List.{list_any}
use Rattle.std.specs.FinMap.{values}
use Rattle.vfs_tree.specs.Place.{mount_of}
use Rattle.plain_views.proofs.references.is_cwd_in.Given as goal

-- those that are left answer for all
abbrev pub invariant-loop-caller : goal.invariant-loop-caller
invariant-loop-caller l =
    (goal.iterator-loop-caller).can_next l._caller-iterator ×
    (goal.iterator-loop-caller).is_finite l._caller-iterator ×
    (list_any (λ c. not c.dead && (mount_of c.place == l.mount)) (values l.world.cwds) ≡ list_any (λ c. not c.dead && (mount_of c.place == l.mount)) (map (λ e. e.1) l._caller-iterator))
