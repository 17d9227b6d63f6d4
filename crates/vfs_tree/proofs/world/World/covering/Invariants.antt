use Rattle.std.proofs.Common.{◌≡◌, map}
use Rattle.std.specs.List.{find}
use Rattle.std.specs.FinMap.{values}
use Rattle.vfs_tree.specs.Mounts.{covers}
use Rattle.vfs_tree.proofs.world.World.covering.Given as goal

-- the first mount that covers it is that of what is left
abbrev pub invariant-loop-number : goal.invariant-loop-number
invariant-loop-number l =
    (goal.iterator-loop-number).can_next l._number-iterator ×
    (goal.iterator-loop-number).is_finite l._number-iterator ×
    (find (covers l.self.leaving l.place) (values l.self.mounts) ≡ find (covers l.self.leaving l.place) (map (λ e. e.1) l._number-iterator))
