use Rattle.std.proofs.Common.{◌≡◌, ◌∙◌, [], ap, sym, arith, slice_get, refl, true, subst, inl, inr, Some}
use Rattle.free_list.specs.Queue.{member}
use Rattle.vnode_rec.specs.declared.slot.Slot.{Slot}
use Rattle.vnode_rec.specs.Vnodes.{Table}
use Rattle.vnode_rec.proofs.Claims as claims
use Rattle.vnode_rec.proofs.Growth.{grows_same, emptied_grows, emptied_is_empty, emptied_absent}
use Rattle.vnode_rec.proofs.table.VnodeTableOf.claim.Goals as goal

pub index-requires : goal.index-requires
index-requires g c =
    let f = c.self.inside in
    let below = claims.front_below f.slots.items f.holders f.free f.empty f.chains.place f.chains.slots f.chains.chains f.rack c.self.invariant c.self.view_is c.in-Some-front.front c.in-Some-front.ensures.front c.in-Some-front.ensures.below in
    let ok = f.slots.ok in
    omega (arith, ok, below)

pub reclaim-requires-clause-below : goal.reclaim-requires-clause-below
reclaim-requires-clause-below g c =
    let f = c.self.inside in
    claims.front_there f.slots.items f.holders f.free f.empty f.chains.place f.chains.slots f.chains.chains f.rack c.self.invariant c.self.view_is c.in-Some-front.front c.in-Some-front.ensures.front c.in-Some-front.ensures.below

pub reclaim-requires-clause-listed : goal.reclaim-requires-clause-listed
reclaim-requires-clause-listed g c =
    let f = c.self.inside in
    let X : Type 0 = g.row.B.Denot in
    subst (λ (t : Table X). member c.in-Some-front.front t.free.queue ≡ true) c.self.view_is c.in-Some-front.ensures.listed

pub reclaim-requires-clause-low : goal.reclaim-requires-clause-low
reclaim-requires-clause-low g c =
    let f = c.self.inside in
    let was = claims.front_slot f.slots.items f.holders f.free f.empty f.chains.place f.chains.slots f.chains.chains f.rack c.self.invariant c.self.view_is c.in-Some-front.front c.in-Some-front.ensures.front c.in-Some-front.ensures.below c.index.result.now c.index.ensures in
    λ n y e q. (
    let both : Some y ≡ Some c.index.result.now = sym e ∙ (ap (slice_get c.args.self.now.slots) q ∙ was) in
    let one : y ≡ c.index.result.now = cc in
    let g = ap (λ (z : Slot g.row.B.Denot). z.generation) one in
    let not_top = c.if-index.false in
    omega (arith, g, not_top)
    )

pub returns-in-Some-clause-none : goal.returns-in-Some-clause-none
returns-in-Some-clause-none g c =
    let f = c.self.inside in
    let here = claims.empty_front f.slots.items f.holders f.free f.empty f.chains.place f.chains.slots f.chains.chains f.rack c.self.invariant c.self.view_is c.in-Some.slot c.in-Some.ensures.front c.in-Some.ensures.below c.in-Some.ensures.listed in
    (λ z. absurd (let k : ⊥ = cc in k), λ n. absurd (claims.not_all_filled c.args.self.now c.in-Some.slot here n))

pub returns-in-Some-clause-claimed : goal.returns-in-Some-clause-claimed
returns-in-Some-clause-claimed g c =
    let f = c.self.inside in
    inl (claims.empty_front f.slots.items f.holders f.free f.empty f.chains.place f.chains.slots f.chains.chains f.rack c.self.invariant c.self.view_is c.in-Some.slot c.in-Some.ensures.front c.in-Some.ensures.below c.in-Some.ensures.listed, refl)

pub returns-in-Some-clause-empty : goal.returns-in-Some-clause-empty
returns-in-Some-clause-empty g c =
    let f = c.self.inside in
    claims.empty_front f.slots.items f.holders f.free f.empty f.chains.place f.chains.slots f.chains.chains f.rack c.self.invariant c.self.view_is c.in-Some.slot c.in-Some.ensures.front c.in-Some.ensures.below c.in-Some.ensures.listed

pub returns-in-Some-clause-grows : goal.returns-in-Some-clause-grows
returns-in-Some-clause-grows g c =
    let f = c.self.inside in
    grows_same c.args.self.now

pub returns-in_default-front-clause-none : goal.returns-in_default-front-clause-none
returns-in_default-front-clause-none g c =
    let f = c.self.inside in
    let full = claims.every_filled f.slots.items f.holders f.free f.empty f.chains.place f.chains.slots f.chains.chains f.rack c.self.invariant c.self.view_is (c.in_default.ensures.none.0 refl) in
    let empty = subst (λ (t : Table g.row.B.Denot). t.free.queue ≡ []) c.self.view_is (c.in_default-front.ensures.none.0 refl) in
    (λ z. (full, inl empty), λ n. refl)

pub returns-in_default-front-clause-grows : goal.returns-in_default-front-clause-grows
returns-in_default-front-clause-grows g c =
    let f = c.self.inside in
    grows_same c.args.self.now

pub returns-then-index-clause-none : goal.returns-then-index-clause-none
returns-then-index-clause-none g c =
    let f = c.self.inside in
    let full = claims.every_filled f.slots.items f.holders f.free f.empty f.chains.place f.chains.slots f.chains.chains f.rack c.self.invariant c.self.view_is (c.in_default.ensures.none.0 refl) in
    let queue = claims.front_is f.slots.items f.holders f.free f.empty f.chains.place f.chains.slots f.chains.chains f.rack c.self.invariant c.self.view_is c.in-Some-front.front c.in-Some-front.ensures.front c.in-Some-front.ensures.below in
    let was = claims.front_slot f.slots.items f.holders f.free f.empty f.chains.place f.chains.slots f.chains.chains f.rack c.self.invariant c.self.view_is c.in-Some-front.front c.in-Some-front.ensures.front c.in-Some-front.ensures.below c.index.result.now c.index.ensures in
    (λ z. claims.no_slot_at c.args.self.now c.in-Some-front.front c.index.result.now full queue was c.if-index.true, λ n. refl)

pub returns-then-index-clause-grows : goal.returns-then-index-clause-grows
returns-then-index-clause-grows g c =
    let f = c.self.inside in
    grows_same c.args.self.now

pub returns-clause-none : goal.returns-clause-none
returns-clause-none g c =
    let f = c.self.inside in
    let queue = claims.front_is f.slots.items f.holders f.free f.empty f.chains.place f.chains.slots f.chains.chains f.rack c.self.invariant c.self.view_is c.in-Some-front.front c.in-Some-front.ensures.front c.in-Some-front.ensures.below in
    let was = claims.front_slot f.slots.items f.holders f.free f.empty f.chains.place f.chains.slots f.chains.chains f.rack c.self.invariant c.self.view_is c.in-Some-front.front c.in-Some-front.ensures.front c.in-Some-front.ensures.below c.index.result.now c.index.ensures in
    (λ z. absurd (let k : ⊥ = cc in k), λ n. absurd (claims.front_can_rise c.args.self.now c.in-Some-front.front c.index.result.now queue was c.if-index.false n))

pub returns-clause-claimed : goal.returns-clause-claimed
returns-clause-claimed g c =
    let f = c.self.inside in
    inr (claims.every_filled f.slots.items f.holders f.free f.empty f.chains.place f.chains.slots f.chains.chains f.rack c.self.invariant c.self.view_is (c.in_default.ensures.none.0 refl), claims.front_is f.slots.items f.holders f.free f.empty f.chains.place f.chains.slots f.chains.chains f.rack c.self.invariant c.self.view_is c.in-Some-front.front c.in-Some-front.ensures.front c.in-Some-front.ensures.below, c.reclaim.ensures.emptied)

pub returns-clause-empty : goal.returns-clause-empty
returns-clause-empty g c =
    let f = c.self.inside in
    emptied_is_empty g.B.Vop.vkind c.in-Some-front.front c.args.self.now c.reclaim.new.self c.reclaim.ensures.emptied

pub returns-clause-grows : goal.returns-clause-grows
returns-clause-grows g c =
    let f = c.self.inside in
    emptied_grows g.B.Vop.vkind c.in-Some-front.front c.args.self.now c.reclaim.new.self c.reclaim.ensures.emptied

pub returns-clause-absent : goal.returns-clause-absent
returns-clause-absent g c =
    let f = c.self.inside in
    emptied_absent g.B.Vop.vkind c.in-Some-front.front c.args.self.now c.reclaim.new.self c.reclaim.ensures.emptied

pub returns-clause-rows : goal.returns-clause-rows
returns-clause-rows g c =
    let f = c.self.inside in
    let X : Type 0 = g.row.B.Denot in
    ap (λ (t : Table X). t.rows) c.reclaim.ensures.emptied.now

pub returns-clause-uses : goal.returns-clause-uses
returns-clause-uses g c =
    let f = c.self.inside in
    let X : Type 0 = g.row.B.Denot in
    ap (λ (t : Table X). t.uses) c.reclaim.ensures.emptied.now
