use Rattle.std.proofs.Common.{◌≡◌, ◌≢◌, ◌<◌, ◌-◌, ◌∙◌, ap, sym, subst, refl, length, take, get_or, map, vec_capacity, arith}
use Rattle.std.specs.Prelude.{None}
use Rattle.std.specs.FinMap.{len}
use Rattle.std.proofs.lemmas.Grind.{common_steps}
use Rattle.std.proofs.lemmas.List.{length-map}
use Rattle.mount_table.specs.declared.seat.Seat.{Seat}
use Rattle.mount_table.specs.Table.{Table, HasLayers, new_mount}
use Rattle.mount_table.proofs.Kept.{len_of, layers_below, last_split, kept_with, table_with}
use Rattle.mount_table.proofs.table.MountTable.add.Goals as goal

pub returns-then-len-self-clause-full : goal.returns-then-len-self-clause-full
returns-then-len-self-clause-full c =
    let all : length c.self.inside.seats.items ≡ c.self.inside.most = omega arith in
    let full = subst (λ (table : Table). len table.mounts ≡ table.most) c.self.view_is (len_of c.self.inside.seats.items c.self.inside.next c.self.invariant.rising ∙ all) in
    ((λ e. full), (λ e. refl))

pub returns-then-len-self-clause-no_number : goal.returns-then-len-self-clause-no_number
returns-then-len-self-clause-no_number c =
    let all : length c.self.inside.seats.items ≡ c.self.inside.most = omega arith in
    let full = subst (λ (table : Table). len table.mounts ≡ table.most) c.self.view_is (len_of c.self.inside.seats.items c.self.inside.next c.self.invariant.rising ∙ all) in
    ((λ e. absurd (cc)), (λ h. absurd (h.0 full)))

pub returns-then-self-clause-full : goal.returns-then-self-clause-full
returns-then-self-clause-full c =
    let is = len_of c.self.inside.seats.items c.self.inside.next c.self.invariant.rising in
    let not_full = subst (λ (table : Table). len table.mounts ≢ table.most) c.self.view_is (λ e. omega arith) in
    ((λ e. absurd (cc)), (λ e. absurd (not_full e)))

pub returns-then-self-clause-no_number : goal.returns-then-self-clause-no_number
returns-then-self-clause-no_number c =
    let is = len_of c.self.inside.seats.items c.self.inside.next c.self.invariant.rising in
    let not_full = subst (λ (table : Table). len table.mounts ≢ table.most) c.self.view_is (λ e. omega arith) in
    let last = subst (λ (table : Table). table.next_mount ≡ 4294967295) c.self.view_is c.if-self.true in
    ((λ e. (not_full, last)), (λ e. refl))

pub returns-in_err-push-clause-full : goal.returns-in_err-push-clause-full
returns-in_err-push-clause-full c =
    let is = len_of c.self.inside.seats.items c.self.inside.next c.self.invariant.rising in
    let not_full = subst (λ (table : Table). len table.mounts ≢ table.most) c.self.view_is (λ e. omega arith) in
    ((λ e. grind (arith, common_steps)), (λ e. absurd (not_full e)))

pub returns-clause-full : goal.returns-clause-full
returns-clause-full c =
    let is = len_of c.self.inside.seats.items c.self.inside.next c.self.invariant.rising in
    let not_full = subst (λ (table : Table). len table.mounts ≢ table.most) c.self.view_is (λ e. omega arith) in
    ((λ e. absurd (cc)), (λ e. absurd (not_full e)))

pub invariant_of-self-2 : goal.invariant_of-self-2
invariant_of-self-2 c =
    let seats = c.self.inside.seats.items in
    let free = c.self.inside.free.items in
    let slot = c.index-slot.result.now in
    let seat : Seat = record { mount = new_mount c.self.inside.next c.args.kind c.args.on; slot = slot; left_by = None } in
    let has = subst (λ (table : Table). HasLayers c.args.kind table.mounts) (sym c.self.view_is) c.requires in
    let below = layers_below seats c.self.inside.next c.args.kind c.self.invariant.rising has in
    let few : length (map (λ (s : Seat). s.slot) seats) ≡ length seats = length-map seats (λ (s : Seat). s.slot) in
    let all = c.self.invariant.slotted.all in
    let count : length free ≡ c.self.inside.free.len = omega arith in
    let some : 0 < c.self.inside.free.len = omega arith in
    let last = last_split free c.self.inside.free.len slot count some (c.index-slot.ensures ∙ ap (λ n. get_or free (n - 1) slot) c.len-2.ensures) in
    rw (c.in_ok-push.ensures.items, c.pop.ensures.rest, c.pop.ensures.capacity)
    (kept_with seats free (take (c.self.inside.free.len - 1) free) c.self.inside.next c.self.inside.most (vec_capacity c.self.inside.free) seat c.self.invariant last refl refl below)

pub returns-clause-added : goal.returns-clause-added
returns-clause-added c = (
  c.index-slot.result.now,
  rw (c.in_ok-push.ensures.items, ← c.self.view_is)
      (table_with c.self.inside.seats.items c.self.inside.next c.self.inside.most c.args.kind c.args.on c.index-slot.result.now c.self.invariant.rising),
)
