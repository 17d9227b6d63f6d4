use Rattle.std.proofs.Common.{◌≡◌, ◌<◌, sym, arith, length, subst, refl, IsSome}
use Rattle.op_vector.specs.declared.data.VKind.{VKind}
use Rattle.vnode_rec.specs.Holders.{row_in}
use Rattle.vnode_rec.specs.Vnodes.{Table, IsCurrent, IsMatched, slot_in}
use Rattle.vnode_rec.specs.Effects.{took}
use Rattle.vnode_rec.proofs.Slots.{current_below}
use Rattle.vnode_rec.proofs.Held.{took_sound}
use Rattle.vnode_rec.proofs.table.VnodeTableOf.hold.Goals as goal

pub discard-requires : goal.discard-requires
discard-requires g c =
    let f = c.self.inside in
    let cur : IsSome (slot_in f.slots.items c.args.vid) = subst (λ (t : Table g.row.B.Denot). IsCurrent t c.args.vid) (sym c.self.view_is) c.requires.current in
    let below = current_below f.slots.items c.args.vid cur in
    let e = c.self.invariant.sizes.free_len in
    omega (arith, below, e)

pub push-requires-clause-below : goal.push-requires-clause-below
push-requires-clause-below g c =
    let f = c.self.inside in
    let cur : IsSome (slot_in f.slots.items c.args.vid) = subst (λ (t : Table g.row.B.Denot). IsCurrent t c.args.vid) (sym c.self.view_is) c.requires.current in
    let below = current_below f.slots.items c.args.vid cur in
    let e = c.self.invariant.sizes.held_len in
    omega (arith, below, e)

pub push-requires-clause-there : goal.push-requires-clause-there
push-requires-clause-there g c = subst (λ (t : Table g.row.B.Denot). c.args.row < length t.rows) (sym c.self.view_is) c.requires.there

pub push-requires-clause-room : goal.push-requires-clause-room
push-requires-clause-room g c = subst (λ (t : Table g.row.B.Denot). length (row_in t.rows c.args.row) < 9) (sym c.self.view_is) c.requires.room

pub invariant_of-self : goal.invariant_of-self
invariant_of-self g c =
    let f = c.self.inside in
    let cur : IsSome (slot_in f.slots.items c.args.vid) = subst (λ (t : Table g.row.B.Denot). IsCurrent t c.args.vid) (sym c.self.view_is) c.requires.current in
    let there : c.args.row < length f.holders.rows = subst (λ (t : Table g.row.B.Denot). c.args.row < length t.rows) (sym c.self.view_is) c.requires.there in
    rw (c.push.ensures, c.discard.ensures) (took_sound f.slots.items f.holders f.free f.empty f.chains.place f.chains.slots f.chains.chains f.rack c.self.invariant c.args.row c.args.vid there cur)

pub returns-clause-took : goal.returns-clause-took
returns-clause-took g c =
    let f = c.self.inside in
    subst (λ (t : Table g.row.B.Denot). record { slots = f.slots.items; rows = c.push.new.self.rows; uses = c.push.new.self.uses; free = c.discard.new.self; rack = f.rack } ≡ took c.args.row c.args.vid t) c.self.view_is (rw (c.push.ensures, c.discard.ensures) refl)

pub returns-clause-matched : goal.returns-clause-matched
returns-clause-matched g c =
    let f = c.self.inside in
    let vkind : g.row.B.Denot → VKind = g.B.Vop.vkind in
    subst (λ (t : Table g.row.B.Denot). IsMatched vkind t → IsMatched vkind (record { slots = f.slots.items; rows = c.push.new.self.rows; uses = c.push.new.self.uses; free = c.discard.new.self; rack = f.rack })) c.self.view_is (λ m. record { rack = m.rack; slots = m.slots })
