-- Which slots are empty.
use Rattle.std.proofs.Common.{ℕ, ◌≡◌, ◌≢◌, ◌<◌, ◌-◌, ◌^◌, true, false, not, Bool, refl, sym, ap, ◌∙◌, subst, inl, inr, List, [], ◌∷◌, length, arith, get_or, slice_get, All, Some}
use Rattle.std.proofs.lemmas.Option.{slice_get-get_or}
use Rattle.op_vector.specs.declared.rack.RackOf.{RackOf}
use Rattle.free_list.specs.Queue.{Queue, member, without}
use Rattle.vnode_rec.specs.declared.slot.Slot.{Slot}
use Rattle.vnode_rec.specs.Holders.{Held}
use Rattle.vnode_rec.specs.Vnodes.{Table, is_filled, empty_slot, AreFilled, IsEmptyAt}
use Rattle.vnode_rec.specs.Effects.{HasNoSlot}
use Rattle.vnode_rec.specs.Sound.{IsSound}
use Rattle.vnode_rec.proofs.Slots.{not_true, no_box, unfilled}

-- the first of a list is below what all are below
pub first_below : (queue : List ℕ) (s : ℕ) (rest : List ℕ) (n : ℕ) → queue ≡ s ∷ rest → All (λ x. x < n) queue → s < n
first_below queue s rest n e all = (subst (λ (l : List ℕ). All (λ x. x < n) l) e all) 0 s (omega arith)

not_false : (b : Bool) → not b ≡ false → b ≡ true
not_false true h = refl
not_false false h = cc

module _ {X : Type 0} (slots : List (Slot X)) (held : Held) (free empty : Queue) (place : List ℕ) (linked chains : ℕ) (rack : RackOf X) (sound : IsSound slots held free empty place linked chains rack) where
  pub all_filled : empty.queue ≡ [] → AreFilled slots
  all_filled none s x e = not_false (is_filled x) (sym (sound.listed s x e).is_empty ∙ ap (member s) none)

  pub empty_at : (s : ℕ) → s < length slots → member s empty.queue ≡ true → IsEmptyAt slots s
  empty_at s h isin =
      let x : Slot X = get_or slots s (empty_slot 0) in
      let e : slice_get slots s ≡ Some x = slice_get-get_or slots s (empty_slot 0) h in
      record { slot = x; was = e; empty = no_box x (not_true (is_filled x) (sym (sound.listed s x e).is_empty ∙ isin)) }

module _ {X : Type 0} (t : Table X) where
  -- with an empty slot, or with a front whose generation can rise, there is a slot
  pub not_all_filled : (s : ℕ) → IsEmptyAt t.slots s → HasNoSlot t → ⊥
  not_all_filled s e none =
      let z : true ≡ false = sym (none.0 s e.slot e.was) ∙ unfilled e.slot e.empty in
      cc

  pub front_can_rise : (s : ℕ) (x : Slot X) → t.free.queue ≡ s ∷ without s t.free.queue → slice_get t.slots s ≡ Some x → x.generation ≢ 2 ^ 64 - 1 → HasNoSlot t → ⊥
  front_can_rise s x front e low none = elim none.1 [
    | inl q ↦ (let both : s ∷ without s t.free.queue ≡ [] = sym front ∙ q in cc)
    | inr q ↦ (
        let both : s ∷ without s t.free.queue ≡ q.0 ∷ without q.0 t.free.queue = sym front ∙ q.2 in
        let same : s ≡ q.0 = cc in
        let here : Some x ≡ Some q.1 = sym e ∙ (ap (slice_get t.slots) same ∙ q.3) in
        let one : x ≡ q.1 = cc in
        low (ap (λ (y : Slot X). y.generation) one ∙ q.4)
        )
  ]

  -- a front whose generation is the greatest word, where no slot is empty
  pub no_slot_at : (s : ℕ) (x : Slot X) → AreFilled t.slots → t.free.queue ≡ s ∷ without s t.free.queue → slice_get t.slots s ≡ Some x → x.generation ≡ 2 ^ 64 - 1 → HasNoSlot t
  no_slot_at s x full front e top = (full, inr (s, x, front, e, top))

-- the front of the one list or of the other, as it is read
module _ {X : Type 0} (slots : List (Slot X)) (held : Held) (free empty : Queue) (place : List ℕ) (linked chains : ℕ) (rack : RackOf X) (sound : IsSound slots held free empty place linked chains rack)
    {t : Table X} (is : ◌≡◌ {A = Table X} (record { slots = slots; rows = held.rows; uses = held.uses; free = free; rack = rack }) t) where
  pub every_filled : empty.queue ≡ [] → AreFilled t.slots
  every_filled none = subst (λ (t : Table X). AreFilled t.slots) is (all_filled slots held free empty place linked chains rack sound none)

  pub empty_front : (s : ℕ) → empty.queue ≡ s ∷ without s empty.queue → All (λ x. x < empty.slots) empty.queue → member s empty.queue ≡ true → IsEmptyAt t.slots s
  empty_front s front below listed =
      let small = first_below empty.queue s (without s empty.queue) empty.slots front below in
      let len = sound.sizes.empty_len in
      subst (λ (t : Table X). IsEmptyAt t.slots s) is (empty_at slots held free empty place linked chains rack sound s (omega (arith, small, len)) listed)

  module _ (s : ℕ) (front : free.queue ≡ s ∷ without s free.queue) (all_below : All (λ x. x < free.slots) free.queue) where
    pub front_below : s < length slots
    front_below =
        let small = first_below free.queue s (without s free.queue) free.slots front all_below in
        let len = sound.sizes.free_len in
        omega (arith, small, len)

    pub front_there : s < length t.slots
    front_there = subst (λ (t : Table X). s < length t.slots) is front_below

    pub front_is : t.free.queue ≡ s ∷ without s t.free.queue
    front_is = subst (λ (t : Table X). t.free.queue ≡ s ∷ without s t.free.queue) is front

    module _ (x : Slot X) (read : x ≡ get_or slots s x) where
      pub front_slot : slice_get t.slots s ≡ Some x
      front_slot = subst (λ (t : Table X). slice_get t.slots s ≡ Some x) is (slice_get-get_or slots s x front_below ∙ ap (λ (y : Slot X). Some y) (sym read))
