use Rattle.std.proofs.Common.{◌≡◌, ◌<◌, ◌∙◌, ap, sym, subst, vec_capacity}
use Rattle.std.specs.Prelude.{Some}
use Rattle.std.specs.FinMap.{get}
use Rattle.mount_table.specs.declared.seat.Seat.{Seat}
use Rattle.mount_table.specs.Table.{Table}
use Rattle.mount_table.proofs.Tables.{get_some, slot_below, slot_own}
use Rattle.mount_table.proofs.table.MountTable.slot.Goals as goal

pub returns-clause-slot : goal.returns-clause-slot
returns-clause-slot c =
    let place = rw c.as_slice.ensures.value at c.found-at.ensures in
    rw (← c.self.view_is) (sym (get_some (λ seat. seat.slot) c.self.inside.seats.items c.args.number c.found-at.result c.index.result.now place ∙ ap (λ seat. Some seat.slot) (sym c.index.ensures)))

pub returns-clause-below : goal.returns-clause-below
returns-clause-below c =
    let place = rw c.as_slice.ensures.value at c.found-at.ensures in
    let below = slot_below c.self.inside.seats.items c.self.inside.free.items c.self.inside.next c.self.inside.most (vec_capacity c.self.inside.free) c.self.invariant c.args.number c.found-at.result c.index.result.now place in
    rw (← c.self.view_is) (subst (λ (seat : Seat). seat.slot < c.self.inside.most) (sym c.index.ensures) below)

pub returns-clause-own : goal.returns-clause-own
returns-clause-own c other is =
    let place = rw c.as_slice.ensures.value at c.found-at.ensures in
    let has = subst (λ (table : Table). get table.slots other ≡ Some c.index.result.now.slot) (sym c.self.view_is) is in
    slot_own c.self.inside.seats.items c.self.inside.free.items c.self.inside.next c.self.inside.most (vec_capacity c.self.inside.free) c.self.invariant c.args.number c.found-at.result c.index.result.now place other
    (has ∙ ap (λ seat. Some seat.slot) c.index.ensures)
