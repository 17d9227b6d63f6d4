-- A slot of the free list is emptied: what holds before, and of the table after it.
use Rattle.std.proofs.Common.{ℕ, ◌≡◌, ◌<◌, ◌≤◌, ◌+◌, ◌^◌, ◌∙◌, ◌++◌, ◌∷◌, List, [], length, sym, ap, arith, get_or, slice_get, slice_set, refl, true, false, subst, Option, Some, None}
use Rattle.std.proofs.lemmas.Option.{get_or_from_slice_get, slice_get-get_or}
use Rattle.op_vector.specs.declared.data.VKind.{VKind}
use Rattle.op_vector.specs.declared.data.VData.TheVariants.{Empty}
use Rattle.op_vector.specs.declared.rack.RackOf.{RackOf}
use Rattle.op_vector.specs.Rack.{boxes_of, room_of, with_boxes, IsByKind}
use Rattle.free_list.specs.Queue.{Queue, member, without}
use Rattle.free_list.specs.Links.{at}
use Rattle.vnode_rec.specs.declared.slot.Slot.{Slot}
use Rattle.vnode_rec.specs.Holders.{Held}
use Rattle.vnode_rec.specs.Sound.{IsSound}
use Rattle.vnode_rec.specs.Vnodes.{Table, IsMatched, EachSlot, HasVector, empty_slot}
use Rattle.vnode_rec.specs.Effects.{HasEmptied}
use Rattle.vnode_rec.proofs.Slots.{box_of}
use Rattle.vnode_rec.proofs.Moves.{place_below, own_room, free_full, free_idle, not_empty, emptied_sound, emptied_has}

module _ {X : Type 0} (vkind : X → VKind) (slots : List (Slot X)) (held : Held) (free empty : Queue) (place : List ℕ) (linked chains : ℕ) (rack : RackOf X) (sound : IsSound slots held free empty place linked chains rack)
    {t : Table X} (is : ◌≡◌ {A = Table X} (record { slots = slots; rows = held.rows; uses = held.uses; free = free; rack = rack }) t) (matched : IsMatched vkind t) (i : ℕ)
    (there : i < length t.slots) (in_free : member i t.free.queue ≡ true) (can_rise : EachSlot (λ s x. s ≡ i → x.generation + 1 < 2 ^ 64) t.slots) where
  abbrev inside : Table X
  inside = record { slots = slots; rows = held.rows; uses = held.uses; free = free; rack = rack }

  m : IsMatched vkind inside
  m = subst (λ (t : Table X). IsMatched vkind t) (sym is) matched

  pub below : i < length slots
  below = subst (λ (t : Table X). i < length t.slots) (sym is) there

  pub queued : member i free.queue ≡ true
  queued = subst (λ (t : Table X). member i t.free.queue ≡ true) (sym is) in_free

  abbrev old : Slot X
  old = get_or slots i (empty_slot 0)

  was : slice_get slots i ≡ Some old
  was = slice_get-get_or slots i (empty_slot 0) below

  low : old.generation + 1 < 2 ^ 64
  low = (subst (λ (t : Table X). EachSlot (λ s x. s ≡ i → x.generation + 1 < 2 ^ 64) t.slots) (sym is) can_rise) i old was refl

  pub empty_below : i < empty.slots
  empty_below = let e = sound.sizes.empty_len in let h = below in omega (arith, h, e)

  pub linked_below : i < linked
  linked_below = let e = sound.sizes.linked_len in let h = below in omega (arith, h, e)

  pub not_yet_empty : member i empty.queue ≡ false
  not_yet_empty = not_empty vkind slots held free empty place linked chains rack sound m.slots i old was queued low

  -- ---- what stands in the slot, as it was read

  module _ (p : Slot X) (read : p ≡ get_or slots i p) where
    slot_is : p ≡ old
    slot_is = read ∙ get_or_from_slice_get slots i old p was

    pub has_box : ◌≡◌ {A = Option X} None p.vop → ⊥
    has_box none =
        let b = box_of old (free_full vkind slots held free empty place linked chains rack sound m.slots i old was queued low) in
        let e : ◌≡◌ {A = Option X} None (Some b.0) = none ∙ ap (λ (s : Slot X). s.vop) slot_is ∙ b.1 in
        cc

    module _ (box : X) (taken : ◌≡◌ {A = Option X} (Some box) p.vop) where
      had : old.vop ≡ Some box
      had = ap (λ (s : Slot X). s.vop) (sym slot_is) ∙ sym taken

      pub room : length (boxes_of (vkind box) rack) < room_of (vkind box) rack
      room = own_room vkind slots held free empty place linked chains rack sound m.slots i old was box had

      module _ (rack' : RackOf X) (given : rack' ≡ with_boxes (vkind box) (boxes_of (vkind box) rack ++ box ∷ []) rack) (vop' : Option X) (after : vop' ≡ None) where
        abbrev new : Slot X
        new = record { vop = vop'; vdata = Empty; name = None; generation = p.generation; doomed = false }

        new_is : empty_slot old.generation ≡ new
        new_is =
            let make : Option X → ℕ → Slot X = λ o n. record { vop = o; vdata = Empty; name = None; generation = n; doomed = false } in
            sym (ap (λ (o : Option X). make o p.generation) after ∙ ap (make None) (ap (λ (s : Slot X). s.generation) slot_is))

        pub has_emptied : (free' : Queue) → free' ≡ record free { queue = without i free.queue }
            → HasEmptied vkind i t (record { slots = slice_set slots i new; rows = held.rows; uses = held.uses; free = free'; rack = rack' })
        has_emptied free' gone =
            let make : Slot X → Queue → Table X = λ s q. record { slots = slice_set slots i s; rows = held.rows; uses = held.uses; free = q; rack = rack' } in
            subst (λ (t : Table X). HasEmptied vkind i t (make new free')) is (record {
              old = old;
              box = box;
              was = was;
              had = had;
              idle = free_idle vkind slots held free empty place linked chains rack sound m.slots i old was queued low;
              now = ap (λ (s : Slot X). make s free') (sym new_is) ∙ ap (make (empty_slot old.generation)) gone;
              given = given;
            })

        module _ (place' : List ℕ) (discarded : at place i ≤ chains → place' ≡ slice_set place i chains) where
          moved : place' ≡ slice_set place i chains
          moved = discarded (place_below vkind slots held free empty place linked chains rack sound m.slots i old was)

          pub new_sound : IsSound (slice_set slots i new) held (record free { queue = without i free.queue }) (record empty { queue = empty.queue ++ i ∷ [] }) place' linked chains rack'
          new_sound =
              subst (λ (s : Slot X). IsSound (slice_set slots i s) held (record free { queue = without i free.queue }) (record empty { queue = empty.queue ++ i ∷ [] }) place' linked chains rack') new_is
              (emptied_sound vkind slots held free empty place linked chains rack sound m.slots i old was queued low box had rack' given place' moved)

          pub new_matched : (IsByKind vkind rack → IsByKind vkind rack') → (free' : Queue) → IsMatched vkind (record { slots = slice_set slots i new; rows = held.rows; uses = held.uses; free = free'; rack = rack' })
          new_matched by_kind free' = record {
            rack = by_kind m.rack;
            slots = subst (λ (s : Slot X). EachSlot (λ n slot. (b : X) → slot.vop ≡ Some b → HasVector vkind slot b) (slice_set slots i s)) new_is
                (emptied_has vkind slots held free empty place linked chains rack sound m.slots i old was queued low box had rack' given place' moved);
          }
