-- A claim and a fill, one after the other.
use Rattle.std.proofs.Common.{ℕ, ◌≡◌, ◌≢◌, ◌<◌, ◌+◌, ◌-◌, ◌^◌, false, refl, sym, ap, ◌∙◌, subst, inl, inr, List, [], Option, Some, IsSome, slice_set}
use Rattle.std.specs.Option.{option_map}
use Rattle.std.proofs.lemmas.Option.{slice_get_within}
use Rattle.op_vector.specs.declared.data.VKind.{VKind}
use Rattle.op_vector.specs.declared.data.VData.{VData}
use Rattle.op_vector.specs.declared.data.Vid.{Vid}
use Rattle.vnode_rec.specs.declared.slot.Slot.{Slot}
use Rattle.vnode_rec.specs.Holders.{occurs}
use Rattle.vnode_rec.specs.Vnodes.{Table, AreFilled, EachSlot, HasRoom, Grows, data_at, slot_in}
use Rattle.vnode_rec.specs.Effects.{HasNoSlot, HasFilled}
use Rattle.vnode_rec.proofs.Slots.{get_same, is_current}

module _ {X : Type 0} where
  pub grows_on : (t u w : Table X) → u.rows ≡ t.rows → Grows t u → Grows u w → Grows t w
  grows_on t u w rows first second = record {
    held = λ v h. second.held v (subst (λ (r : List (List Vid)). 0 < occurs v.slot r) (sym rows) h) ∙ first.held v h;
    given = λ v h. second.given v (first.given v h);
    back = λ v h c. (
        let e = second.back v (first.given v h) c in
        e ∙ first.back v h (subst (λ (o : Option (Slot X)). IsSome o) e c)
        );
  }

  -- with room in a row and no generation at its end, there is a slot
  pub there_is_one : (t : Table X) → HasNoSlot t → HasRoom t.rows → (HasRoom t.rows → AreFilled t.slots → t.free.queue ≢ []) → EachSlot (λ s slot. slot.generation ≢ 2 ^ 64 - 1) t.slots → ⊥
  there_is_one t none room some low = elim none.1 [
    | inl e ↦ some room none.0 e
    | inr q ↦ low q.0 q.1 q.3 q.4
  ]

  -- a vnode that was filled in has its data
  pub filled_data : (vkind : X → VKind) (s : ℕ) (vd : VData) (name : Option (List ℕ)) (vid : Vid) (t u : Table X) → HasFilled vkind s vd name vid t u → data_at u vid ≡ Some vd
  filled_data vkind s vd name vid t u f = (
      let new : Slot X = record { vop = Some f.box; vdata = vd; name = name; generation = f.old.generation + 1; doomed = false } in
      let v : Vid = record { slot = s; generation = f.old.generation + 1 } in
      let here : slot_in (slice_set t.slots s new) v ≡ Some new = is_current (slice_set t.slots s new) v new (get_same t.slots s new (slice_get_within t.slots s f.old f.was)) refl refl in
      let slots : u.slots ≡ slice_set t.slots s new = ap (λ (x : Table X). x.slots) f.now in
      ap (λ (x : List (Slot X)). option_map (λ slot. slot.vdata) (slot_in x vid)) slots
      ∙ ap (λ (w : Vid). option_map (λ slot. slot.vdata) (slot_in (slice_set t.slots s new) w)) f.vid_is
      ∙ ap (λ (o : Option (Slot X)). option_map (λ slot. slot.vdata) o) here
      )
