use Rattle.std.proofs.Common.{◌≡◌, ◌++◌, false, sym, subst, length, take, drop, vec_capacity, arith}
use Rattle.std.specs.Prelude.{None}
use Rattle.std.specs.FinMap.{get}
use Rattle.std.proofs.lemmas.List.{take_at}
use Rattle.vfs_tree.specs.Mounts.{is_left}
use Rattle.mount_table.specs.Table.{Table}
use Rattle.mount_table.proofs.Detached.{left_kept, left_mounts, left_table}
use Rattle.mount_table.proofs.table.MountTable.detach.Goals as goal

pub invariant_of-self : goal.invariant_of-self
invariant_of-self c =
    let len : length c.leave.new.seats ≡ c.self.inside.seats.len = omega arith in
    let whole : take c.self.inside.seats.len (c.leave.new.seats ++ drop (length c.leave.new.seats) c.self.inside.seats.items) ≡ c.leave.new.seats = take_at c.leave.new.seats (drop (length c.leave.new.seats) c.self.inside.seats.items) c.self.inside.seats.len len in
    let left = rw c.as_mut_slice.ensures.value at c.leave.ensures in
    let idle = subst (λ (table : Table). get table.leaving c.args.caller ≡ None) (sym c.self.view_is) c.requires.idle in
    let stays = subst (λ (table : Table). is_left table.leaving c.args.number ≡ false) (sym c.self.view_is) c.requires.staying in
    rw whole (left_kept c.self.inside.seats.items c.self.inside.free.items c.self.inside.next c.self.inside.most (vec_capacity c.self.inside.free) c.self.invariant c.args.number c.args.caller c.leave.new.seats left idle stays)

pub returns-clause-cut : goal.returns-clause-cut
returns-clause-cut c other =
    let len : length c.leave.new.seats ≡ c.self.inside.seats.len = omega arith in
    let whole : take c.self.inside.seats.len (c.leave.new.seats ++ drop (length c.leave.new.seats) c.self.inside.seats.items) ≡ c.leave.new.seats = take_at c.leave.new.seats (drop (length c.leave.new.seats) c.self.inside.seats.items) c.self.inside.seats.len len in
    let left = rw c.as_mut_slice.ensures.value at c.leave.ensures in
    let idle = subst (λ (table : Table). get table.leaving c.args.caller ≡ None) (sym c.self.view_is) c.requires.idle in
    let stays = subst (λ (table : Table). is_left table.leaving c.args.number ≡ false) (sym c.self.view_is) c.requires.staying in
    rw (whole, ← c.self.view_is) (left_mounts c.self.inside.seats.items c.self.inside.free.items c.self.inside.next c.self.inside.most (vec_capacity c.self.inside.free) c.self.invariant c.args.number c.args.caller c.leave.new.seats left idle stays other)

pub returns-clause-others : goal.returns-clause-others
returns-clause-others c =
    let len : length c.leave.new.seats ≡ c.self.inside.seats.len = omega arith in
    let whole : take c.self.inside.seats.len (c.leave.new.seats ++ drop (length c.leave.new.seats) c.self.inside.seats.items) ≡ c.leave.new.seats = take_at c.leave.new.seats (drop (length c.leave.new.seats) c.self.inside.seats.items) c.self.inside.seats.len len in
    let left = rw c.as_mut_slice.ensures.value at c.leave.ensures in
    let idle = subst (λ (table : Table). get table.leaving c.args.caller ≡ None) (sym c.self.view_is) c.requires.idle in
    let stays = subst (λ (table : Table). is_left table.leaving c.args.number ≡ false) (sym c.self.view_is) c.requires.staying in
    rw (whole, ← c.self.view_is) (left_table c.self.inside.seats.items c.self.inside.free.items c.self.inside.next c.self.inside.most (vec_capacity c.self.inside.free) c.self.invariant c.args.number c.args.caller c.leave.new.seats left idle stays)
