-- Held vnodes stay, and no vnode comes back as another, where a slot that no row has is changed.
use Rattle.std.proofs.Common.{ℕ, ◌≡◌, ◌≢◌, ◌<◌, ◌≤◌, true, false, ◌==◌, refl, sym, ap, ◌∙◌, subst, List, length, arith, slice_get, slice_set, Option, Some}
use Rattle.std.specs.Option.{option_and_then}
use Rattle.std.proofs.lemmas.Option.{slice_get_within}
use Rattle.op_vector.specs.declared.data.VKind.{VKind}
use Rattle.op_vector.specs.declared.data.Vid.{Vid}
use Rattle.op_vector.specs.declared.data.VData.{VData}
use Rattle.free_list.proofs.Queues.{yes_eq, no_eq}
use Rattle.vnode_rec.specs.declared.slot.Slot.{Slot}
use Rattle.vnode_rec.specs.Holders.{occurs}
use Rattle.vnode_rec.specs.Vnodes.{Table, is_filled, slot_in, slot_at, empty_slot, IsEmptyAt, HasNone, WasGiven, Grows, is_live, identity_if_live}
use Rattle.vnode_rec.specs.Effects.{HasEmptied}
use Rattle.vnode_rec.proofs.Slots.{get_same, get_other, found, live_as, slot_kept}

module _ {X : Type 0} where
  pub grows_same : (t : Table X) → Grows t t
  grows_same t = record { held = λ v h. refl; given = λ v g. g; back = λ v g c. refl }

  module _ (t u : Table X) (i : ℕ) (old new : Slot X) (was : slice_get t.slots i ≡ Some old) (idle : occurs i t.rows ≡ 0) (now : u.slots ≡ slice_set t.slots i new) (more : old.generation ≤ new.generation) (later : is_filled new ≡ true → old.generation < new.generation) where
    below : i < length t.slots
    below = slice_get_within t.slots i old was

    elsewhere : (v : Vid) → v.slot ≢ i → slot_at u v ≡ slot_at t v
    elsewhere v n = ap (λ l. slot_in l v) now ∙ slot_kept t.slots i new v n

    here : (v : Vid) → v.slot ≡ i → slice_get u.slots v.slot ≡ Some new
    here v q = ap (λ l. slice_get l v.slot) now ∙ (ap (slice_get (slice_set t.slots i new)) q ∙ get_same t.slots i new below)

    pub grows_by : Grows t u
    grows_by = record {
      held = λ v h. elsewhere v (λ q. (let e = ap (λ s. occurs s t.rows) q in omega (arith, h, e, idle)));
      given = λ v g. (elim (v.slot == i) as (λ b. (v.slot == i) ≡ b → WasGiven u v) [
        | true ↦ λ e. (
            let q = yes_eq v.slot i e in
            let both : Some g.slot ≡ Some old = sym g.was ∙ (ap (slice_get t.slots) q ∙ was) in
            let one : g.slot ≡ old = cc in
            let k = g.given in
            let o = ap (λ (s : Slot X). s.generation) one in
            record { slot = new; was = here v q; given = omega (arith, k, o, more) }
            )
        | false ↦ λ e. record { slot = g.slot; was = ap (λ l. slice_get l v.slot) now ∙ (get_other t.slots i new v.slot (no_eq v.slot i e) ∙ g.was); given = g.given }
      ]) refl;
      back = λ v g c. (elim (v.slot == i) as (λ b. (v.slot == i) ≡ b → slot_at u v ≡ slot_at t v) [
        | true ↦ λ e. (
            let q = yes_eq v.slot i e in
            let both : Some g.slot ≡ Some old = sym g.was ∙ (ap (slice_get t.slots) q ∙ was) in
            let one : g.slot ≡ old = cc in
            let f = found u.slots v c in
            let both' : Some f.slot ≡ Some new = sym f.was ∙ here v q in
            let one' : f.slot ≡ new = cc in
            let full : is_filled new ≡ true = subst (λ (s : Slot X). is_filled s ≡ true) one' f.filled in
            let a = later full in
            let k = g.given in
            let o = ap (λ (s : Slot X). s.generation) one in
            let p = ap (λ (s : Slot X). s.generation) one' in
            let r = f.generation in
            absurd (omega (arith, a, k, o, p, r))
            )
        | false ↦ λ e. elsewhere v (no_eq v.slot i e)
      ]) refl;
    }

  -- the slot that a claim answers is empty then, and all else of vnodes is kept
  module _ (vkind : X → VKind) (s : ℕ) (t u : Table X) (e : HasEmptied vkind s t u) where
    pub emptied_grows : Grows t u
    emptied_grows = grows_by t u s e.old (empty_slot e.old.generation) e.was e.idle (ap (λ (w : Table X). w.slots) e.now) (omega arith) (λ z. absurd (let k : ⊥ = cc in k))

    pub emptied_is_empty : IsEmptyAt u.slots s
    emptied_is_empty = record {
      slot = empty_slot e.old.generation;
      was = ap (λ (w : Table X). slice_get w.slots s) e.now ∙ get_same t.slots s (empty_slot e.old.generation) (slice_get_within t.slots s e.old e.was);
      empty = refl;
    }

    -- no identity comes in
    pub emptied_absent : (id : VData × Option (List ℕ)) → HasNone id t → HasNone id u
    emptied_absent id none w h =
        let l = live_as u.slots w id h in
        (elim (w.slot == s) as (λ b. (w.slot == s) ≡ b → ⊥) [
          | true ↦ λ q. (
              let gone : slice_get u.slots w.slot ≡ Some (empty_slot e.old.generation) = ap (slice_get u.slots) (yes_eq w.slot s q) ∙ (ap (λ (z : Table X). slice_get z.slots s) e.now ∙ get_same t.slots s (empty_slot e.old.generation) (slice_get_within t.slots s e.old e.was)) in
              let both : Some l.slot ≡ Some (empty_slot e.old.generation) = sym l.was ∙ gone in
              let one : l.slot ≡ empty_slot e.old.generation = cc in
              let z : false ≡ true = ap (λ (x : Slot X). is_live x) (sym one) ∙ l.live in
              cc
              )
          | false ↦ λ q. none w (ap (option_and_then identity_if_live) (sym (ap (λ (z : Table X). slot_in z.slots w) e.now ∙ slot_kept t.slots s (empty_slot e.old.generation) w (no_eq w.slot s q))) ∙ h)
        ]) refl
