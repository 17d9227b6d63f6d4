use Rattle.std.proofs.Common.{◌∙◌, ap, sym}
use Rattle.std.specs.Prelude.{Some}
use Rattle.mount_table.proofs.Tables.{get_none, get_some}
use Rattle.mount_table.proofs.table.MountTable.get.Goals as goal

pub returns-in-None : goal.returns-in-None
returns-in-None c =
    rw (← c.self.view_is) (sym (get_none (λ seat. seat.mount) c.self.inside.seats.items c.args.number (rw c.as_slice.ensures.value at c.in-None.ensures)))

pub returns-in-Some : goal.returns-in-Some
returns-in-Some c =
    let place = rw c.as_slice.ensures.value at c.in-Some.ensures in
    rw (← c.self.view_is) (sym (get_some (λ seat. seat.mount) c.self.inside.seats.items c.args.number c.in-Some.at c.index.result.now place ∙ ap (λ seat. Some seat.mount) (sym c.index.ensures)))
