use Rattle.std.proofs.Common.{◌≤◌}
use Rattle.vfs_tree.specs.Nodes.{IsNumbered}
use Rattle.call_laws.specs.Live.{live}
use Rattle.vfs_core.specs.Coming.{DoomsAll}
use Rattle.vfs_core.proofs.revoking.doom_open.Given as goal

abbrev pub invariant-loop-at : goal.invariant-loop-at
invariant-loop-at l = record {
  dooms : DoomsAll l.node l.caller l.initial.world l.world l.initial.history l.history;
  room : live l.world ≤ l.history.spare;
  numbered : IsNumbered l.world;
}

abbrev pub decreases-loop-at : goal.decreases-loop-at
decreases-loop-at l = live l.world
