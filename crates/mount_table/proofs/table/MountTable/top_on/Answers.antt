use Rattle.std.proofs.Common.{◌∙◌, ap, sym}
use Rattle.std.specs.Prelude.{option_map}
use Rattle.std.specs.List.{find}
use Rattle.mount_table.specs.Seats.{covers_seat}
use Rattle.mount_table.proofs.Covering.{covering_seat}
use Rattle.mount_table.proofs.table.MountTable.top_on.Goals as goal

pub returns : goal.returns
returns c =
    let seats = c.self.inside.seats.items in
    rw (← c.self.view_is) (c.covering.ensures
    ∙ (ap (λ s. option_map (λ seat. seat.mount.number) (find (covers_seat c.args.place.now) s)) c.as_slice.ensures.value
    ∙ sym (covering_seat seats c.self.inside.next c.args.place.now c.self.invariant.rising c.self.invariant.callers)))
