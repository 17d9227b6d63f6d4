use Rattle.std.proofs.Common.{◌≡◌, false, sym, subst, vec_capacity}
use Rattle.std.specs.Prelude.{Some, None}
use Rattle.std.specs.FinMap.{get}
use Rattle.vfs_tree.specs.Start.{root_mount}
use Rattle.vfs_tree.specs.Mounts.{is_left}
use Rattle.mount_table.specs.declared.seat.Seat.{Seat}
use Rattle.mount_table.specs.Table.{Table}
use Rattle.mount_table.proofs.Tables.{kept_out, table_out, out_left, out_staying}
use Rattle.mount_table.proofs.table.MountTable.drop_mount.Goals as goal

pub invariant_of-self : goal.invariant_of-self
invariant_of-self c =
    let some : Seat = record { mount = root_mount; slot = 0; left_by = None } in
    let place = rw c.as_slice.ensures.value at c.found-at.ensures in
    rw (c.push_reserved.ensures.items, c.push_reserved.ensures.capacity, c.take_out-slot.ensures.items, c.take_out-slot.ensures.slot some)
    (kept_out c.self.inside.seats.items c.self.inside.free.items c.self.inside.next c.self.inside.most (vec_capacity c.self.inside.free) c.self.invariant c.args.number c.found-at.result some place)

pub returns-clause-dropped : goal.returns-clause-dropped
returns-clause-dropped c =
    let some : Seat = record { mount = root_mount; slot = 0; left_by = None } in
    let place = rw c.as_slice.ensures.value at c.found-at.ensures in
    rw (← c.self.view_is, c.take_out-slot.ensures.items)
    (table_out c.self.inside.seats.items c.self.inside.free.items c.self.inside.next c.self.inside.most (vec_capacity c.self.inside.free) c.self.invariant c.args.number c.found-at.result some place)

pub returns-clause-left : goal.returns-clause-left
returns-clause-left c caller is =
    let some : Seat = record { mount = root_mount; slot = 0; left_by = None } in
    let place = rw c.as_slice.ensures.value at c.found-at.ensures in
    let has = subst (λ (table : Table). get table.leaving caller ≡ Some c.args.number) (sym c.self.view_is) is in
    rw (← c.self.view_is, c.take_out-slot.ensures.items)
    (out_left c.self.inside.seats.items c.self.inside.free.items c.self.inside.next c.self.inside.most (vec_capacity c.self.inside.free) c.self.invariant c.args.number c.found-at.result some place caller has)

pub returns-clause-staying : goal.returns-clause-staying
returns-clause-staying c is =
    let some : Seat = record { mount = root_mount; slot = 0; left_by = None } in
    let place = rw c.as_slice.ensures.value at c.found-at.ensures in
    let stays = subst (λ (table : Table). is_left table.leaving c.args.number ≡ false) (sym c.self.view_is) is in
    rw (← c.self.view_is, c.take_out-slot.ensures.items)
    (out_staying c.self.inside.seats.items c.self.inside.free.items c.self.inside.next c.self.inside.most (vec_capacity c.self.inside.free) c.self.invariant c.args.number c.found-at.result some place stays)
