use Rattle.std.proofs.Common.{◌≡◌, map}
use Rattle.std.specs.Prelude.{◌==◌}
use Rattle.std.specs.List.{list_any}
use Rattle.std.specs.FinMap.{values}
use Rattle.vfs_tree.proofs.world.World.is_left.Given as goal

-- the entries that are left answer for all
abbrev pub invariant-loop-caller : goal.invariant-loop-caller
invariant-loop-caller l =
    (goal.iterator-loop-caller).can_next l._caller-iterator ×
    (goal.iterator-loop-caller).is_finite l._caller-iterator ×
    (list_any (λ n. n == l.mount) (values l.self.leaving) ≡ list_any (λ n. n == l.mount) (map (λ e. e.1) l._caller-iterator))
