use Rattle.std.proofs.Common.{◌≡◌, drop}
use Rattle.std.specs.Ordering.{nat_cmp}
use Rattle.std.specs.FinMap.{find}
use Rattle.mount_table.specs.Seats.{leavers}
use Rattle.mount_table.proofs.seat.left_by.Given as goal

abbrev pub invariant-loop-seat : goal.invariant-loop-seat
invariant-loop-seat l = find nat_cmp l.caller (leavers (drop l.seat-index l.seats)) ≡ find nat_cmp l.caller (leavers l.seats)
