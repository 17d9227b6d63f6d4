use Rattle.std.proofs.Common.{◌≡◌, map, take, drop}
use Rattle.mount_table.specs.Seats.{mounts_in, layers_of, cut_seat}
use Rattle.mount_table.proofs.seat.cut_all.Given as goal

abbrev pub invariant-loop-at : goal.invariant-loop-at
invariant-loop-at l = record {
  front : take l.at l.seats ≡ map (cut_seat (mounts_in l.initial.seats) l.number) (take l.at l.initial.seats);
  back : drop l.at l.seats ≡ drop l.at l.initial.seats;
  layers : layers_of l.seats ≡ layers_of l.initial.seats;
}
