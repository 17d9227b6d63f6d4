use Rattle.std.proofs.Common.{◌≡◌, ◌<◌, ◌+◌, true, false, sym, subst, ◌∙◌, arith, length, slice_get, Some}
use Rattle.std.specs.Option.{option_copied}
use Rattle.free_list.specs.Links.{at}
use Rattle.vnode_rec.specs.declared.slot.Slot.{Slot}
use Rattle.vnode_rec.specs.Chains.{Links, AreChained}
use Rattle.vnode_rec.specs.Identity.{identity}
use Rattle.vnode_rec.specs.Vnodes.{HasIdentity, identity_of}
use Rattle.vnode_rec.proofs.Links.{link_of}
use Rattle.vnode_rec.proofs.Walk.{Walking, start, onward, none_left, on_chain, is_at}
use Rattle.vnode_rec.proofs.chains.Chains.find.Goals as goal

pub loop-init : goal.loop-init
loop-init g c =
    let f = c.self.inside in
    let are : AreChained f.next.items f.prev.items f.place.items f.slots f.chains = c.self.invariant in
    let cm : c.args.chain < f.chains = subst (λ (v : Links). c.args.chain < v.chains) (sym c.self.view_is) c.requires.chain in
    let len : length c.args.slots.now ≡ f.slots = subst (λ (v : Links). length c.args.slots.now ≡ v.slots) (sym c.self.view_is) c.requires.len in
    let nl = are.next_len in
    let first = link_of f.next.items (f.slots + c.args.chain) c.index-at.result.now (omega arith) c.index-at.ensures in
    subst (λ (v : Links). Walking {X = g.row.B.Denot} v.next v.place v.slots c.args.chain (identity c.args.vd.now (option_copied c.args.name)) c.args.slots.now c.index-at.result.now 0) c.self.view_is
    (start f.next.items f.prev.items f.place.items f.slots f.chains c.args.chain are cm (identity c.args.vd.now (option_copied c.args.name)) c.args.slots.now len c.index-at.result.now first)

pub returns-then-slots-at-clause-none : goal.returns-then-slots-at-clause-none
returns-then-slots-at-clause-none g c =
    let v = c.args.self.now in
    let len = c.requires.len in
    let past = c.if-slots-at.true in
    none_left v.next v.place v.slots c.args.chain (identity c.args.vd.now (option_copied c.args.name)) c.args.slots.now c.loop.at c.loop.counter c.loop.invariant (omega (arith, len, past))

pub returns-then-is_of-clause-found : goal.returns-then-is_of-clause-found
returns-then-is_of-clause-found g c =
    let v = c.args.self.now in
    let len = c.requires.len in
    let within = c.if-slots-at.false in
    let id = identity c.args.vd.now (option_copied c.args.name) in (
      on_chain v.next v.place v.slots c.args.chain id c.args.slots.now c.loop.at c.loop.counter c.loop.invariant (omega (arith, len, within)),
      (
        c.index-slots-at.result,
        is_at v.next v.place v.slots c.args.chain id c.args.slots.now c.loop.at c.index-slots-at.result (omega (arith, within)) c.index-slots-at.is,
        c.is_of.ensures.0 c.if-is_of.true,
      ),
    )

pub loop-preserved : goal.loop-preserved
loop-preserved g c =
    let f = c.self.inside in
    let v = c.args.self.now in
    let are : AreChained f.next.items f.prev.items f.place.items f.slots f.chains = c.self.invariant in
    let len : length c.args.slots.now ≡ f.slots = subst (λ (w : Links). length c.args.slots.now ≡ w.slots) (sym c.self.view_is) c.requires.len in
    let len' = c.requires.len in
    let within = c.if-slots-at.false in
    let nl = are.next_len in
    let id = identity c.args.vd.now (option_copied c.args.name) in
    let x : Slot g.row.B.Denot = c.index-slots-at.result in
    let here : slice_get c.args.slots.now c.loop.at ≡ Some x = is_at v.next v.place v.slots c.args.chain id c.args.slots.now c.loop.at x (omega (arith, within)) c.index-slots-at.is in
    let other : HasIdentity id c.args.slots.now c.loop.at → ⊥ = λ i. (
    let both : Some i.0 ≡ Some x = sym i.1 ∙ here in
    let same : i.0 ≡ x = cc in
    let yes : c.is_of.result ≡ true = c.is_of.ensures.1 (subst (λ (y : Slot g.row.B.Denot). identity_of y ≡ id) same i.2) in
    let out : c.is_of.result ≡ false = c.if-is_of.false in
    let z : true ≡ false = sym yes ∙ out in
    cc
    ) in
    let next : c.index-at-in-loop.result.now ≡ at f.next.items c.loop.at = link_of f.next.items c.loop.at c.index-at-in-loop.result.now (omega (arith, within, len, nl)) c.index-at-in-loop.ensures in
    let next' : c.index-at-in-loop.result.now ≡ at v.next c.loop.at = subst (λ (w : Links). c.index-at-in-loop.result.now ≡ at w.next c.loop.at) c.self.view_is next in
    subst (λ a. Walking {X = g.row.B.Denot} v.next v.place v.slots c.args.chain id c.args.slots.now a (c.loop.counter + 1)) (sym next')
    (onward v.next v.place v.slots c.args.chain id c.args.slots.now c.loop.at c.loop.counter c.loop.invariant (omega (arith, len', within)) other)
