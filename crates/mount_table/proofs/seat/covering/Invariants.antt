use Rattle.std.proofs.Common.{◌≡◌, drop}
use Rattle.std.specs.List.{find}
use Rattle.mount_table.specs.Seats.{covers_seat}
use Rattle.mount_table.proofs.seat.covering.Given as goal

abbrev pub invariant-loop-seat : goal.invariant-loop-seat
invariant-loop-seat l = find (covers_seat l.place) (drop l.seat-index l.seats) ≡ find (covers_seat l.place) l.seats
