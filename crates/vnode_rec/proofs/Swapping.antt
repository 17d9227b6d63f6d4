-- A vnode is doomed, and gets a dead vector: what holds before, and of the table after it.
use Rattle.std.proofs.Common.{ℕ, ◌≡◌, ◌≢◌, ◌<◌, ◌≤◌, ◌∙◌, ◌++◌, ◌∷◌, List, [], length, sym, ap, arith, get_or, slice_set, true, subst, Option, Some, None, IsSome}
use Rattle.std.specs.Option.{option_and_then}
use Rattle.std.proofs.lemmas.Option.{get_or_from_slice_get, slice_get_within}
use Rattle.op_vector.specs.declared.data.VKind.{VKind}
use Rattle.op_vector.specs.declared.data.VKind.TheVariants.{Dead}
use Rattle.op_vector.specs.declared.data.Vid.{Vid}
use Rattle.op_vector.specs.declared.rack.RackOf.{RackOf}
use Rattle.op_vector.specs.Rack.{boxes_of, room_of, with_boxes, IsByKind}
use Rattle.free_list.specs.Queue.{Queue}
use Rattle.free_list.specs.Links.{at}
use Rattle.vnode_rec.specs.declared.slot.Slot.{Slot}
use Rattle.vnode_rec.specs.Holders.{Held}
use Rattle.vnode_rec.specs.Sound.{IsSound}
use Rattle.vnode_rec.specs.Vnodes.{Table, IsLive, IsMatched, identity_if_live, slot_in, EachSlot, HasVector}
use Rattle.vnode_rec.specs.Effects.{HasSwapped}
use Rattle.vnode_rec.proofs.Slots.{IsLiveAs, box_of, live_some, live_filled, live_not_doomed}
use Rattle.vnode_rec.proofs.Moves.{place_below, some_dead, swap_room, swap_sound, swap_has}

module _ {X : Type 0} (vkind : X → VKind) (slots : List (Slot X)) (held : Held) (free empty : Queue) (place : List ℕ) (linked chains : ℕ) (rack : RackOf X) (sound : IsSound slots held free empty place linked chains rack)
    {t : Table X} (is : ◌≡◌ {A = Table X} (record { slots = slots; rows = held.rows; uses = held.uses; free = free; rack = rack }) t) (matched : IsMatched vkind t) (v : Vid) (live : IsLive t v) where
  abbrev inside : Table X
  inside = record { slots = slots; rows = held.rows; uses = held.uses; free = free; rack = rack }

  m : IsMatched vkind inside
  m = subst (λ (t : Table X). IsMatched vkind t) (sym is) matched

  alive : IsSome (option_and_then identity_if_live (slot_in slots v))
  alive = subst (λ (t : Table X). IsLive t v) (sym is) live

  l : IsLiveAs slots v (live_some slots v alive).0
  l = (live_some slots v alive).1

  abbrev old : Slot X
  old = l.slot

  pub below : v.slot < length slots
  below = slice_get_within slots v.slot old l.was

  pub linked_below : v.slot < linked
  linked_below = let e = sound.sizes.linked_len in let h = below in omega (arith, h, e)

  pub dead_left : boxes_of Dead rack ≢ []
  dead_left = some_dead vkind slots held free empty place linked chains rack sound m.slots v.slot old l.was (live_filled old l.live) (live_not_doomed old l.live)

  -- ---- what stands in the slot, as it was read

  module _ (p : Slot X) (read : p ≡ get_or slots v.slot p) where
    slot_is : p ≡ old
    slot_is = read ∙ get_or_from_slice_get slots v.slot old p l.was

    pub has_box : ◌≡◌ {A = Option X} None p.vop → ⊥
    has_box none =
        let b = box_of old (live_filled old l.live) in
        let e : ◌≡◌ {A = Option X} None (Some b.0) = none ∙ ap (λ (s : Slot X). s.vop) slot_is ∙ b.1 in
        cc

    -- a dead vector came from the rack, and the vnode's own out of the slot
    module _ (mid : RackOf X) (dead : X) (took : boxes_of Dead rack ≡ boxes_of Dead mid ++ dead ∷ []) (kept : mid ≡ with_boxes Dead (boxes_of Dead mid) rack)
        (by_kind : IsByKind vkind rack → IsByKind vkind mid × (vkind dead ≡ Dead)) (box : X) (taken : ◌≡◌ {A = Option X} (Some box) p.vop) where
      had : old.vop ≡ Some box
      had = ap (λ (s : Slot X). s.vop) (sym slot_is) ∙ sym taken

      is_dead : vkind dead ≡ Dead
      is_dead = (by_kind m.rack).1

      pub room : length (boxes_of (vkind box) mid) < room_of (vkind box) mid
      room = swap_room vkind slots held free empty place linked chains rack sound m.slots v.slot old l.was (live_filled old l.live) (live_not_doomed old l.live) mid dead took kept is_dead box had

      module _ (rack' : RackOf X) (given : rack' ≡ with_boxes (vkind box) (boxes_of (vkind box) mid ++ box ∷ []) mid) (vop' : Option X) (after : vop' ≡ Some dead) where
        abbrev new : Slot X
        new = record { vop = vop'; vdata = p.vdata; name = p.name; generation = p.generation; doomed = true }

        new_is : ◌≡◌ {A = Slot X} (record old { vop = Some dead; doomed = true }) new
        new_is = let make : Slot X → Option X → Slot X = λ s o. record s { vop = o; doomed = true } in sym (ap (make p) after ∙ ap (λ (s : Slot X). make s (Some dead)) slot_is)

        pub has_swapped : HasSwapped vkind v t (record { slots = slice_set slots v.slot new; rows = held.rows; uses = held.uses; free = free; rack = rack' })
        has_swapped =
            let make : Slot X → Table X = λ s. record { slots = slice_set slots v.slot s; rows = held.rows; uses = held.uses; free = free; rack = rack' } in
            subst (λ (t : Table X). HasSwapped vkind v t (make new)) is (record {
              old = old;
              box = box;
              dead = dead;
              mid = mid;
              was = l.was;
              had = had;
              is_dead = is_dead;
              now = ap make (sym new_is);
              taken = took;
              others = kept;
              given = given;
            })

        module _ (place' : List ℕ) (discarded : at place v.slot ≤ chains → place' ≡ slice_set place v.slot chains) where
          moved : place' ≡ slice_set place v.slot chains
          moved = discarded (place_below vkind slots held free empty place linked chains rack sound m.slots v.slot old l.was)

          pub new_sound : IsSound (slice_set slots v.slot new) held free empty place' linked chains rack'
          new_sound =
              subst (λ (s : Slot X). IsSound (slice_set slots v.slot s) held free empty place' linked chains rack') new_is
              (swap_sound vkind slots held free empty place linked chains rack sound m.slots v.slot old l.was (live_filled old l.live) (live_not_doomed old l.live) mid dead took kept is_dead box had rack' given place' moved)

          pub new_matched : (IsByKind vkind mid → IsByKind vkind rack') → IsMatched vkind (record { slots = slice_set slots v.slot new; rows = held.rows; uses = held.uses; free = free; rack = rack' })
          new_matched gives = record {
            rack = gives (by_kind m.rack).0;
            slots = subst (λ (s : Slot X). EachSlot (λ n slot. (b : X) → slot.vop ≡ Some b → HasVector vkind slot b) (slice_set slots v.slot s)) new_is
                (swap_has vkind slots held free empty place linked chains rack sound m.slots v.slot old l.was (live_filled old l.live) (live_not_doomed old l.live) mid dead took kept is_dead box had rack' given place' moved);
          }
