-- What is true of a table's fields stays so where another slot stands at a number.
use Rattle.std.proofs.Common.{ℕ, ◌≡◌, ◌≢◌, ◌<◌, ◌≤◌, ◌+◌, ◌^◌, true, false, not, ◌==◌, ◌&&◌, cond, refl, sym, ap, ◌∙◌, subst, inl, inr, List, length, arith, get_or, slice_get, slice_set, All, Option, Some, IsSome}
use Rattle.std.proofs.lemmas.List.{length-set}
use Rattle.std.proofs.lemmas.List.Sums.{get_or-le-sum_by, sum_by-le}
use Rattle.op_vector.specs.declared.data.VKind.{VKind}
use Rattle.op_vector.specs.declared.data.Vid.{Vid}
use Rattle.op_vector.specs.declared.rack.RackOf.{RackOf}
use Rattle.free_list.specs.Queue.{Queue, member}
use Rattle.free_list.specs.Links.{at}
use Rattle.free_list.proofs.Queues.{yes_eq, no_eq, eq_yes}
use Rattle.vnode_rec.specs.declared.slot.Slot.{Slot}
use Rattle.vnode_rec.specs.Holders.{Held, occurs, occurs_in}
use Rattle.vnode_rec.specs.Vnodes.{is_filled, is_live, identity_of, slot_in}
use Rattle.vnode_rec.specs.Sound.{IsListed, IsSound, IsSupplied, place_of}
use Rattle.vnode_rec.proofs.Slots.{at_set, get_same, found, is_current, slot_kept}
use Rattle.vnode_rec.proofs.Boxes.{within}

-- where a slot stands in no row, no vnode of a row is of that slot
pub apart : (i : ℕ) (rows : List (List Vid)) → occurs i rows ≡ 0 → (k : ℕ) (d : List Vid) → k < length rows → (k2 : ℕ) (d2 : Vid) → k2 < length (get_or rows k d) → (get_or (get_or rows k d) k2 d2).slot ≢ i
apart i rows idle k d h k2 d2 h2 e =
    let a = get_or-le-sum_by (occurs_in i) rows k d h in
    let b = get_or-le-sum_by (λ (v : Vid). cond (v.slot == i) 1 0) (get_or rows k d) k2 d2 h2 in
    let b' = rw (eq_yes (get_or (get_or rows k d) k2 d2).slot i e) at b in
    omega (arith, a, b', idle)

-- an empty slot stands in no row
pub empty_idle : {X : Type 0} (slots : List (Slot X)) (rows : List (List Vid)) (i : ℕ) (old : Slot X) → slice_get slots i ≡ Some old → is_filled old ≡ false → All (All (λ (w : Vid). IsSome (slot_in slots w))) rows → occurs i rows ≡ 0
empty_idle {X} slots rows i old was empty current =
    let all : All (λ r. occurs_in i r ≤ 0) rows = λ k d h. (
    let one : All (λ (v : Vid). cond (v.slot == i) 1 0 ≤ 0) (get_or rows k d) = λ k2 d2 h2. (
    let v : Vid = get_or (get_or rows k d) k2 d2 in
    (elim (v.slot == i) as (λ b. (v.slot == i) ≡ b → cond {A = ℕ} b 1 0 ≤ 0) [
      | true ↦ λ t. (
          let f = found slots v (current k d h k2 d2 h2) in
          let both : Some f.slot ≡ Some old = sym f.was ∙ (ap (slice_get slots) (yes_eq v.slot i t) ∙ was) in
          let same : f.slot ≡ old = cc in
          let z : true ≡ false = sym f.filled ∙ (ap (λ (s : Slot X). is_filled s) same ∙ empty) in
          absurd (let k : ⊥ = cc in k)
          )
      | false ↦ λ t. omega arith
    ]) refl
    ) in
    let s = sum_by-le (λ (v : Vid). cond (v.slot == i) 1 0) 0 (get_or rows k d) one in
    omega (arith, s)
    ) in
    let s = sum_by-le (occurs_in i) 0 rows all in
    omega (arith, s)

module _ {X : Type 0} (slots : List (Slot X)) (i : ℕ) (old new : Slot X) (was : slice_get slots i ≡ Some old) where
  -- a vnode of the slot stays current where the slot keeps its generation
  pub same_current : (rows : List (List Vid)) → is_filled new ≡ true → new.generation ≡ old.generation → All (All (λ (w : Vid). IsSome (slot_in slots w))) rows → All (All (λ (w : Vid). IsSome (slot_in (slice_set slots i new) w))) rows
  same_current rows full same current k d h k2 d2 h2 =
      let w : Vid = get_or (get_or rows k d) k2 d2 in
      let before : IsSome (slot_in slots w) = current k d h k2 d2 h2 in
      (elim (w.slot == i) as (λ b. (w.slot == i) ≡ b → IsSome (slot_in (slice_set slots i new) w)) [
        | true ↦ λ t. (
            let q : w.slot ≡ i = yes_eq w.slot i t in
            let f = found slots w before in
            let both : Some f.slot ≡ Some old = sym f.was ∙ (ap (slice_get slots) q ∙ was) in
            let one : f.slot ≡ old = cc in
            let here : slice_get (slice_set slots i new) w.slot ≡ Some new = ap (slice_get (slice_set slots i new)) q ∙ get_same slots i new (within slots i old was) in
            let e : slot_in (slice_set slots i new) w ≡ Some new = is_current (slice_set slots i new) w new here full (same ∙ (ap (λ (s : Slot X). s.generation) (sym one) ∙ f.generation)) in
            subst (λ (o : Option (Slot X)). IsSome o) (sym e) refl
            )
        | false ↦ λ t. subst (λ (o : Option (Slot X)). IsSome o) (sym (slot_kept slots i new w (no_eq w.slot i t))) before
      ]) refl

  -- where no row has the slot, each vnode of a row stays current
  pub idle_current : (rows : List (List Vid)) → occurs i rows ≡ 0 → All (All (λ (w : Vid). IsSome (slot_in slots w))) rows → All (All (λ (w : Vid). IsSome (slot_in (slice_set slots i new) w))) rows
  idle_current rows idle current k d h k2 d2 h2 = subst (λ (o : Option (Slot X)). IsSome o) (sym (slot_kept slots i new (get_or (get_or rows k d) k2 d2) (apart i rows idle k d h k2 d2 h2))) (current k d h k2 d2 h2)

  module _ (held : Held) (free empty : Queue) (place : List ℕ) (linked chains : ℕ) (rack : RackOf X) (sound : IsSound slots held free empty place linked chains rack)
      (free' empty' : Queue) (place' : List ℕ) (rack' : RackOf X)
      (current : All (All (λ (w : Vid). IsSome (slot_in (slice_set slots i new) w))) held.rows)
      (free_len : free'.slots ≡ free.slots) (free_others : (j : ℕ) → j ≢ i → member j free'.queue ≡ member j free.queue) (free_here : member i free'.queue ≡ (is_filled new && (occurs i held.rows == 0)))
      (empty_len : empty'.slots ≡ empty.slots) (empty_others : (j : ℕ) → j ≢ i → member j empty'.queue ≡ member j empty.queue) (empty_here : member i empty'.queue ≡ not (is_filled new))
      (low : is_filled new ≡ false → new.generation + 1 < 2 ^ 64)
      (place_len : length place' ≡ length place) (place_others : (j : ℕ) → j ≢ i → at place' j ≡ at place j) (place_here : at place' i ≡ place_of chains new)
      (fresh : is_live new ≡ true → (s : ℕ) (x : Slot X) → s ≢ i → slice_get slots s ≡ Some x → is_live x ≡ true → identity_of x ≡ identity_of new → ⊥)
      (supplied : (kind : VKind) → IsSupplied (slice_set slots i new) rack' kind) where
    pub changed_sound : IsSound (slice_set slots i new) held free' empty' place' linked chains rack'
    changed_sound =
        let ln : length (slice_set slots i new) ≡ length slots = length-set slots i new in
        let h = within slots i old was in
        let sizes = sound.sizes in
        let few = sizes.few in
        let small = sizes.small in
        record {
          sizes = record {
            held_len = sizes.held_len ∙ sym ln;
            free_len = free_len ∙ (sizes.free_len ∙ sym ln);
            empty_len = empty_len ∙ (sizes.empty_len ∙ sym ln);
            linked_len = sizes.linked_len ∙ sym ln;
            place_len = place_len ∙ (sizes.place_len ∙ sym ln);
            few = rw ln few;
            small = rw ln small;
            some_chains = sizes.some_chains;
          };
          current = current;
          listed = λ s x e. elim (at_set slots i new s x h e) [
            | inl q ↦ subst (λ k. IsListed held.rows free'.queue empty'.queue place' chains k x) (sym q.0) (subst (λ (y : Slot X). IsListed held.rows free'.queue empty'.queue place' chains i y) (sym q.1) (record {
              is_free = free_here;
              is_empty = empty_here;
              low = low;
              placed = place_here;
            }))
            | inr q ↦ (let l = sound.listed s x q.1 in record {
              is_free = free_others s q.0 ∙ l.is_free;
              is_empty = empty_others s q.0 ∙ l.is_empty;
              low = l.low;
              placed = place_others s q.0 ∙ l.placed;
            })
          ];
          unique = λ s t x y es et ls lt same. elim (at_set slots i new s x h es) [
            | inl p ↦ elim (at_set slots i new t y h et) [
              | inl q ↦ p.0 ∙ sym q.0
              | inr q ↦ absurd (fresh (subst (λ (z : Slot X). is_live z ≡ true) p.1 ls) t y q.0 q.1 lt (sym same ∙ ap (λ (z : Slot X). identity_of z) p.1))
            ]
            | inr p ↦ elim (at_set slots i new t y h et) [
              | inl q ↦ absurd (fresh (subst (λ (z : Slot X). is_live z ≡ true) q.1 lt) s x p.0 p.1 ls (same ∙ ap (λ (z : Slot X). identity_of z) q.1))
              | inr q ↦ sound.unique s t x y p.1 q.1 ls lt same
            ]
          ];
          supplied = supplied;
        }
