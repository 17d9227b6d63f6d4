-- Finding a vnode by its identity.
use Rattle.std.proofs.Common.{ℕ, ◌≡◌, ◌<◌, Bool, true, false, cond, refl, sym, ap, ◌∙◌, subst, List, length, arith, get_or, slice_get, Option, Some, None, IsNone}
use Rattle.std.specs.Option.{option_and_then}
use Rattle.std.proofs.lemmas.Option.{get_or_from_slice_get, slice_get_within}
use Rattle.op_vector.specs.declared.data.Vid.{Vid}
use Rattle.op_vector.specs.declared.data.VData.{VData}
use Rattle.op_vector.specs.declared.rack.RackOf.{RackOf}
use Rattle.free_list.specs.Queue.{Queue}
use Rattle.free_list.specs.Links.{at}
use Rattle.vnode_rec.specs.declared.slot.Slot.{Slot}
use Rattle.vnode_rec.specs.Chains.{chain_of}
use Rattle.vnode_rec.specs.Holders.{Held}
use Rattle.vnode_rec.specs.Identity.{identity}
use Rattle.vnode_rec.specs.Vnodes.{is_live, identity_of, identity_if_live, slot_in, HasIdentity, Table, HasNone, identity_at, vnode_of}
use Rattle.vnode_rec.specs.Sound.{IsSound}
use Rattle.vnode_rec.proofs.Seek.{seek_none, seek_some}
use Rattle.vnode_rec.proofs.Slots.{live_as, is_live_as}

-- a number is its slot and its generation
one_vid : (v w : Vid) → v.slot ≡ w.slot → v.generation ≡ w.generation → v ≡ w
one_vid v w e f = ap (λ n. record { slot = n; generation = v.generation }) e ∙ ap (λ n. record { slot = w.slot; generation = n }) f

module _ {X : Type 0} (slots : List (Slot X)) (held : Held) (free empty : Queue) (place : List ℕ) (linked chains : ℕ) (rack : RackOf X) (sound : IsSound slots held free empty place linked chains rack)
    (id : VData × Option (List ℕ)) (chain : ℕ) (is_chain : chain ≡ chain_of id chains) (within : chain < chains) where
  -- a slot of the chain has a live vnode
  by_live : (x : Slot X) (b : Bool) → is_live x ≡ b → cond b (chain_of (identity_of x) chains) chains ≡ chain → is_live x ≡ true
  by_live x true e h = e
  by_live x false e h = absurd (omega (arith, h, within))

  pub chain_live : (s : ℕ) (x : Slot X) → slice_get slots s ≡ Some x → at place s ≡ chain → is_live x ≡ true
  chain_live s x e h = by_live x (is_live x) refl (sym (sound.listed s x e).placed ∙ h)

  module _ (s : ℕ) (h : at place s ≡ chain) (i : HasIdentity id slots s) (v : Vid) (at_slot : v.slot ≡ s) (at_generation : v.generation ≡ i.0.generation) where
    pub is_found : option_and_then identity_if_live (slot_in slots v) ≡ Some id
    is_found =
        let here : slice_get slots v.slot ≡ Some i.0 = ap (slice_get slots) at_slot ∙ i.1 in
        is_live_as slots v i.0 here (chain_live s i.0 i.1 h) (sym at_generation) ∙ ap (λ (k : VData × Option (List ℕ)). Some k) i.2

    pub is_only : (w : Vid) → option_and_then identity_if_live (slot_in slots w) ≡ Some id → v ≡ w
    is_only w e =
        let l = live_as slots w id e in
        let same_slot : s ≡ w.slot = sound.unique s w.slot i.0 l.slot i.1 l.was (chain_live s i.0 i.1 h) l.live (i.2 ∙ sym l.same) in
        let both : Some i.0 ≡ Some l.slot = sym i.1 ∙ (ap (slice_get slots) same_slot ∙ l.was) in
        let one : i.0 ≡ l.slot = cc in
        let slot_is : v.slot ≡ w.slot = at_slot ∙ same_slot in
        let generation_is : v.generation ≡ w.generation = at_generation ∙ (ap (λ (y : Slot X). y.generation) one ∙ l.generation) in
        one_vid v w slot_is generation_is

  -- no slot has the identity where none of the chain has
  pub no_slot : ((s : ℕ) → at place s ≡ chain → HasIdentity id slots s → ⊥) → (s : ℕ) (x : Slot X) → slice_get slots s ≡ Some x → is_live x ≡ true → identity_of x ≡ id → ⊥
  no_slot out s x e live same = out s ((sound.listed s x e).placed ∙ (ap (λ b. cond b (chain_of (identity_of x) chains) chains) live ∙ (ap (λ k. chain_of k chains) same ∙ sym is_chain))) (x, e, same)

  pub is_absent : ((s : ℕ) → at place s ≡ chain → HasIdentity id slots s → ⊥) → (w : Vid) → option_and_then identity_if_live (slot_in slots w) ≡ Some id → ⊥
  is_absent out w e =
      let l = live_as slots w id e in
      no_slot out w.slot l.slot l.was l.live l.same

-- what a search of the chain says of the table
module _ {X : Type 0} (slots : List (Slot X)) (held : Held) (free empty : Queue) (place : List ℕ) (linked chains : ℕ) (rack : RackOf X) (sound : IsSound slots held free empty place linked chains rack)
    {t : Table X} (is : ◌≡◌ {A = Table X} (record { slots = slots; rows = held.rows; uses = held.uses; free = free; rack = rack }) t)
    (vd : VData) (name : Option (List ℕ)) (chain count : ℕ) (hashed : chain ≡ chain_of (identity vd name) count) (counted : count ≡ chains) (below_count : chain < count) (items : List (Slot X)) (same : items ≡ slots) where
  abbrev id : VData × Option (List ℕ)
  id = identity vd name

  in_chains : chain ≡ chain_of id chains
  in_chains = hashed ∙ ap (chain_of id) counted

  chain_within : chain < chains
  chain_within = let a = below_count in let b = counted in omega (arith, a, b)

  -- a slot of the chain has the identity
  module _ (s : ℕ) (in_chain : at place s ≡ chain) (had : HasIdentity id items s) where
    has : HasIdentity id slots s
    has = subst (λ (l : List (Slot X)). HasIdentity id l s) same had

    pub slot_below : s < length slots
    slot_below = slice_get_within slots s has.0 has.1

    module _ (x : Slot X) (read : x ≡ get_or slots s x) where
      abbrev v : Vid
      v = record { slot = s; generation = x.generation }

      same_generation : x.generation ≡ has.0.generation
      same_generation = ap (λ (y : Slot X). y.generation) (read ∙ get_or_from_slice_get slots s has.0 x has.1)

      here : option_and_then identity_if_live (slot_in slots v) ≡ Some id
      here = is_found slots held free empty place linked chains rack sound id chain in_chains chain_within s in_chain has v refl same_generation

      pub has_found : identity_at t v ≡ Some id
      has_found = subst (λ (t : Table X). identity_at t v ≡ Some id) is here

      pub found_some : (IsNone (Some v) → HasNone id t) × (HasNone id t → IsNone (Some v))
      found_some = (λ z. absurd (let k : ⊥ = cc in k), λ none. absurd (none v has_found))

      pub found_only : (w : Vid) → identity_at t w ≡ Some id → ◌≡◌ {A = Option Vid} (Some v) (Some w)
      found_only = subst (λ (t : Table X). (w : Vid) → identity_at t w ≡ Some id → ◌≡◌ {A = Option Vid} (Some v) (Some w)) is
          (λ w e. ap (λ (u : Vid). Some u) (is_only slots held free empty place linked chains rack sound id chain in_chains chain_within s in_chain has v refl same_generation w e))

      pub found_exact : ◌≡◌ {A = Option Vid} (Some v) (vnode_of id t)
      found_exact =
          let live = chain_live slots held free empty place linked chains rack sound id chain in_chains chain_within s has.0 has.1 in_chain in
          subst (λ (t : Table X). ◌≡◌ {A = Option Vid} (Some v) (vnode_of id t)) is
          (ap (λ n. Some (record { slot = s; generation = n })) same_generation ∙ sym (seek_some vd name slots 0 s has.0 has.1 live has.2 (λ r y e l i. sound.unique r s y has.0 e has.1 l live (i ∙ sym has.2)) s (omega arith)))

  -- no slot of the chain has it
  module _ (none : (s : ℕ) → at place s ≡ chain → HasIdentity id items s → ⊥) where
    out : (s : ℕ) → at place s ≡ chain → HasIdentity id slots s → ⊥
    out s in_chain had = none s in_chain (subst (λ (l : List (Slot X)). HasIdentity id l s) (sym same) had)

    pub has_none : HasNone id t
    has_none = subst (λ (t : Table X). HasNone id t) is (λ w e. is_absent slots held free empty place linked chains rack sound id chain in_chains chain_within out w e)

    pub none_exact : ◌≡◌ {A = Option Vid} None (vnode_of id t)
    none_exact = subst (λ (t : Table X). ◌≡◌ {A = Option Vid} None (vnode_of id t)) is (sym (seek_none vd name slots 0 (no_slot slots held free empty place linked chains rack sound id chain in_chains chain_within out)))
