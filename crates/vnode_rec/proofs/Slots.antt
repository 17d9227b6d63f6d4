-- The slots by their numbers, and vnodes that are current.
use Rattle.std.proofs.Common.{ℕ, ◌≡◌, ◌≢◌, ◌<◌, ◌≤◌, Bool, true, false, not, ◌==◌, ◌&&◌, cond, refl, sym, ap, ◌∙◌, subst, inl, inr, ◌⊎◌, List, length, arith, slice_get, slice_set, is_some, IsSome, Option, Some, None}
use Rattle.std.specs.Option.{option_and_then}
use Rattle.std.proofs.lemmas.List.{length-set, get_or-set_same, get_or-set_other}
use Rattle.std.proofs.lemmas.Option.{slice_get_within, slice_get-get_or, slice_get_past}
use Rattle.free_list.proofs.Queues.{eq_yes, yes_eq, no_eq}
use Rattle.op_vector.specs.declared.data.Vid.{Vid}
use Rattle.op_vector.specs.declared.data.VData.{VData}
use Rattle.vnode_rec.specs.declared.slot.Slot.{Slot}
use Rattle.vnode_rec.specs.Vnodes.{is_filled, is_live, if_current, slot_in, identity_of, identity_if_live}

pub and_true : (a b : Bool) → (a && b) ≡ true → (a ≡ true) × (b ≡ true)
and_true true true h = (refl, refl)
and_true true false h = cc
and_true false b h = cc

pub both_true : (a b : Bool) → a ≡ true → b ≡ true → (a && b) ≡ true
both_true a b ha hb = rw (ha, hb) refl

pub and_false : (b : Bool) → (b && false) ≡ false
and_false true = refl
and_false false = refl

pub and_yes : (b : Bool) → (b && true) ≡ b
and_yes true = refl
and_yes false = refl

pub not_true : (b : Bool) → not b ≡ true → b ≡ false
not_true true h = cc
not_true false h = refl

module _ {X : Type 0} where
  -- a list of slots with another slot at a number
  pub get_same : (slots : List X) (i : ℕ) (new : X) → i < length slots → slice_get (slice_set slots i new) i ≡ Some new
  get_same slots i new h = slice_get-get_or (slice_set slots i new) i new (rw (length-set slots i new) h) ∙ ap (λ (x : X). Some x) (get_or-set_same slots i new new h)

  pub get_other : (slots : List X) (i : ℕ) (new : X) (s : ℕ) → s ≢ i → slice_get (slice_set slots i new) s ≡ slice_get slots s
  get_other slots i new s n = (elim (less s (length slots)) as (λ _. slice_get (slice_set slots i new) s ≡ slice_get slots s) [
    | inl h ↦ slice_get-get_or (slice_set slots i new) s new (rw (length-set slots i new) h) ∙ (ap (λ (x : X). Some x) (get_or-set_other slots i s new new n) ∙ sym (slice_get-get_or slots s new h))
    | inr h ↦ slice_get_past (slice_set slots i new) s (rw (length-set slots i new) h) ∙ sym (slice_get_past slots s h)
  ])
    where
      less : (a b : ℕ) → (a < b) ⊎ (b ≤ a)
      less a b = grind arith

  -- a slot after a change is the new one, or was there before
  pub at_set : (slots : List X) (i : ℕ) (new : X) (s : ℕ) (x : X) → i < length slots → slice_get (slice_set slots i new) s ≡ Some x → ((s ≡ i) × (x ≡ new)) ⊎ ((s ≢ i) × (slice_get slots s ≡ Some x))
  at_set slots i new s x h e = (elim (s == i) as (λ b. (s == i) ≡ b → ((s ≡ i) × (x ≡ new)) ⊎ ((s ≢ i) × (slice_get slots s ≡ Some x))) [
    | true ↦ λ t. (
        let q : s ≡ i = yes_eq s i t in
        let both : Some x ≡ Some new = sym e ∙ (ap (slice_get (slice_set slots i new)) q ∙ get_same slots i new h) in
        let same : x ≡ new = cc in
        inl (q, same)
        )
    | false ↦ λ t. inr (no_eq s i t, sym (get_other slots i new s (no_eq s i t)) ∙ e)
  ]) refl

-- a slot whose vnode is current
pub record IsFound {X : Type 0} (slots : List (Slot X)) (v : Vid) : Type 0 where
  pub slot : Slot X
  pub was : slice_get slots v.slot ≡ Some slot
  pub filled : is_filled slot ≡ true
  pub generation : slot.generation ≡ v.generation
  pub here : slot_in slots v ≡ Some slot

module _ {X : Type 0} where
  by_slot : (slots : List (Slot X)) (v : Vid) (o : Option (Slot X)) → slice_get slots v.slot ≡ o → IsSome (option_and_then (if_current v.generation) o) → IsFound slots v
  by_slot slots v None e h = absurd (let k : ⊥ = cc in k)
  by_slot slots v (Some x) e h = (elim (is_filled x && (x.generation == v.generation)) as (λ b. (is_filled x && (x.generation == v.generation)) ≡ b → IsSome (cond b (Some x) None) → IsFound slots v) [
    | true ↦ λ t k. (
        let both = and_true (is_filled x) (x.generation == v.generation) t in
        record {
          slot = x;
          was = e;
          filled = both.0;
          generation = yes_eq x.generation v.generation both.1;
          here = ap (option_and_then (if_current v.generation)) e ∙ ap (λ b. cond {A = Option (Slot X)} b (Some x) None) t;
        }
        )
    | false ↦ λ t k. absurd (let j : ⊥ = cc in j)
  ]) refl h

  -- a vnode that is current stands in its slot
  pub found : (slots : List (Slot X)) (v : Vid) → IsSome (slot_in slots v) → IsFound slots v
  found slots v h = by_slot slots v (slice_get slots v.slot) refl h

  pub found_at : (slots : List (Slot X)) (v : Vid) (x : Slot X) → slot_in slots v ≡ Some x → IsFound slots v
  found_at slots v x e = found slots v (subst (λ (o : Option (Slot X)). IsSome o) (sym e) refl)

  pub current_below : (slots : List (Slot X)) (v : Vid) → IsSome (slot_in slots v) → v.slot < length slots
  current_below slots v h = let f = found slots v h in slice_get_within slots v.slot f.slot f.was

  -- and the other way round
  pub is_current : (slots : List (Slot X)) (v : Vid) (x : Slot X) → slice_get slots v.slot ≡ Some x → is_filled x ≡ true → x.generation ≡ v.generation → slot_in slots v ≡ Some x
  is_current slots v x e full same = ap (option_and_then (if_current v.generation)) e ∙ rw (full, eq_yes x.generation v.generation same) refl

  -- a vnode of another slot stays as it is
  pub slot_kept : (slots : List (Slot X)) (i : ℕ) (new : Slot X) (v : Vid) → v.slot ≢ i → slot_in (slice_set slots i new) v ≡ slot_in slots v
  slot_kept slots i new v n = ap (option_and_then (if_current v.generation)) (get_other slots i new v.slot n)

  -- what it is for a slot to be live
  pub live_filled : (x : Slot X) → is_live x ≡ true → is_filled x ≡ true
  live_filled x h = (and_true (is_filled x) (not x.doomed) h).0

  pub live_not_doomed : (x : Slot X) → is_live x ≡ true → x.doomed ≡ false
  live_not_doomed x h = not_true x.doomed (and_true (is_filled x) (not x.doomed) h).1

  pub is_live_if : (x : Slot X) → is_filled x ≡ true → x.doomed ≡ false → is_live x ≡ true
  is_live_if x full alive = rw (full, alive) refl

  pub filled_by : (x : Slot X) (b : X) → x.vop ≡ Some b → is_filled x ≡ true
  filled_by x b e = ap (λ (o : Option X). is_some o) e

  pub unfilled : (x : Slot X) → x.vop ≡ None → is_filled x ≡ false
  unfilled x e = ap (λ (o : Option X). is_some o) e

  by_vop : (x : Slot X) (o : Option X) → x.vop ≡ o → is_some o ≡ true → (b : X) × (x.vop ≡ Some b)
  by_vop x None e h = cc
  by_vop x (Some b) e h = (b, e)

  pub box_of : (x : Slot X) → is_filled x ≡ true → (b : X) × (x.vop ≡ Some b)
  box_of x h = by_vop x x.vop refl h

  by_vop_none : (x : Slot X) (o : Option X) → x.vop ≡ o → is_some o ≡ false → x.vop ≡ None
  by_vop_none x None e h = e
  by_vop_none x (Some b) e h = cc

  pub no_box : (x : Slot X) → is_filled x ≡ false → x.vop ≡ None
  no_box x h = by_vop_none x x.vop refl h

-- a vnode that is live stands in its slot with its identity
pub record IsLiveAs {X : Type 0} (slots : List (Slot X)) (v : Vid) (id : VData × Option (List ℕ)) : Type 0 where
  pub slot : Slot X
  pub was : slice_get slots v.slot ≡ Some slot
  pub live : is_live slot ≡ true
  pub generation : slot.generation ≡ v.generation
  pub here : slot_in slots v ≡ Some slot
  pub same : identity_of slot ≡ id

module _ {X : Type 0} where
  by_current : (slots : List (Slot X)) (v : Vid) (id : VData × Option (List ℕ)) (o : Option (Slot X)) → slot_in slots v ≡ o → option_and_then identity_if_live o ≡ Some id → IsLiveAs slots v id
  by_current slots v id None e h = cc
  by_current slots v id (Some x) e h = (elim x.doomed as (λ b. x.doomed ≡ b → cond b None (Some (identity_of x)) ≡ Some id → IsLiveAs slots v id) [
    | true ↦ λ t k. cc
    | false ↦ λ t k. (
        let f = found_at slots v x e in
        let both : Some f.slot ≡ Some x = sym f.here ∙ e in
        let same : f.slot ≡ x = cc in
        record {
          slot = x;
          was = f.was ∙ both;
          live = is_live_if x (subst (λ (y : Slot X). is_filled y ≡ true) same f.filled) t;
          generation = subst (λ (y : Slot X). y.generation ≡ v.generation) same f.generation;
          here = e;
          same = some_same (identity_of x) id k;
        }
        )
  ]) refl h
    where
      some_same : (a b : VData × Option (List ℕ)) → Some a ≡ Some b → a ≡ b
      some_same a b e = cc

  pub live_as : (slots : List (Slot X)) (v : Vid) (id : VData × Option (List ℕ)) → option_and_then identity_if_live (slot_in slots v) ≡ Some id → IsLiveAs slots v id
  live_as slots v id h = by_current slots v id (slot_in slots v) refl h

  pub is_live_as : (slots : List (Slot X)) (v : Vid) (x : Slot X) → slice_get slots v.slot ≡ Some x → is_live x ≡ true → x.generation ≡ v.generation → option_and_then identity_if_live (slot_in slots v) ≡ Some (identity_of x)
  is_live_as slots v x e live same = ap (option_and_then identity_if_live) (is_current slots v x e (live_filled x live) same) ∙ ap (λ b. cond {A = Option (VData × Option (List ℕ))} b None (Some (identity_of x))) (live_not_doomed x live)

some_value : {Y : Type 0} (o : Option Y) → IsSome o → (y : Y) × (o ≡ Some y)
some_value None h = absurd (let k : ⊥ = cc in k)
some_value (Some y) h = (y, refl)

module _ {X : Type 0} where
  -- a vnode that is live stands in its slot, which has a vnode that isn't doomed
  pub live_some : (slots : List (Slot X)) (v : Vid) → IsSome (option_and_then identity_if_live (slot_in slots v)) → (id : VData × Option (List ℕ)) × IsLiveAs slots v id
  live_some slots v h = let o = some_value (option_and_then identity_if_live (slot_in slots v)) h in (o.0, live_as slots v o.0 o.1)
