use Rattle.std.proofs.Common.{◌≡◌, None}
use Rattle.turn_lock.specs.Known.{ComesFrom}
use Rattle.vfs_core.proofs.SeatLaws.{Waits}
use Rattle.vfs_core.proofs.turns.end_in_turns.Given as goal

abbrev pub invariant-loop : goal.invariant-loop
invariant-loop g l =
    ((goal.iterator-loop g).can_next l.iterator' × (goal.iterator-loop g).is_finite l.iterator')
    × ComesFrom l.lock l.pass × (l.pass.held ≡ None) × Waits l.caller l.fn.pass l.pass
