use Rattle.std.proofs.Common.{◌≡◌, ◌==◌, drop}
use Rattle.std.specs.List.{list_any}
use Rattle.mount_table.specs.Seats.{leavers}
use Rattle.mount_table.proofs.seat.is_left.Given as goal

abbrev pub invariant-loop-seat : goal.invariant-loop-seat
invariant-loop-seat l = list_any (λ entry. entry.1 == l.number) (leavers (drop l.seat-index l.seats)) ≡ list_any (λ entry. entry.1 == l.number) (leavers l.seats)
