-- An empty slot of a table gets a vnode: what holds before, and of the table after it.
use Rattle.std.proofs.Common.{ℕ, ◌≡◌, ◌≢◌, ◌<◌, ◌+◌, ◌^◌, ◌∙◌, ◌++◌, ◌∷◌, List, [], length, sym, ap, arith, get_or, slice_get, slice_set, refl, true, false, subst, Option, Some, IsSome}
use Rattle.std.proofs.lemmas.Option.{get_or_from_slice_get, slice_get_within}
use Rattle.op_vector.specs.declared.data.VKind.{VKind}
use Rattle.op_vector.specs.declared.data.VData.{VData}
use Rattle.op_vector.specs.declared.data.VData.TheVariants.{Empty}
use Rattle.op_vector.specs.declared.data.Vid.{Vid}
use Rattle.op_vector.specs.declared.rack.RackOf.{RackOf}
use Rattle.op_vector.specs.Rack.{boxes_of, with_boxes, IsByKind}
use Rattle.free_list.specs.Queue.{Queue, member, without}
use Rattle.free_list.specs.Links.{at}
use Rattle.vnode_rec.specs.declared.slot.Slot.{Slot}
use Rattle.vnode_rec.specs.Chains.{chain_of}
use Rattle.vnode_rec.specs.Holders.{Held}
use Rattle.vnode_rec.specs.Identity.{identity}
use Rattle.vnode_rec.specs.Sound.{IsSound}
use Rattle.vnode_rec.specs.Vnodes.{Table, IsCurrent, IsMatched, IsEmptyAt, HasNone, EachSlot, HasVector, WasGiven, Grows, identity_at, kind_of_data, is_live, identity_of}
use Rattle.vnode_rec.specs.Effects.{HasFilled}
use Rattle.vnode_rec.proofs.Slots.{get_same, is_current, is_live_as}
use Rattle.vnode_rec.proofs.Moves.{hollow_idle, hollow_low, hollow_listed, hollow_not_free, hollow_nowhere, some_of_kind, filled_sound, filled_has}
use Rattle.vnode_rec.proofs.Growth.{grows_by}

module _ {X : Type 0} (vkind : X → VKind) (slots : List (Slot X)) (held : Held) (free empty : Queue) (place : List ℕ) (linked chains : ℕ) (rack : RackOf X) (sound : IsSound slots held free empty place linked chains rack)
    {t : Table X} (is : ◌≡◌ {A = Table X} (record { slots = slots; rows = held.rows; uses = held.uses; free = free; rack = rack }) t) (matched : IsMatched vkind t) (i : ℕ) (at_slot : IsEmptyAt t.slots i) where
  abbrev inside : Table X
  inside = record { slots = slots; rows = held.rows; uses = held.uses; free = free; rack = rack }

  m : IsMatched vkind inside
  m = subst (λ (t : Table X). IsMatched vkind t) (sym is) matched

  hollow : IsEmptyAt slots i
  hollow = subst (λ (t : Table X). IsEmptyAt t.slots i) (sym is) at_slot

  abbrev old : Slot X
  old = hollow.slot

  pub below : i < length slots
  below = slice_get_within slots i old hollow.was

  pub linked_below : i < linked
  linked_below = let e = sound.sizes.linked_len in let h = below in omega (arith, h, e)

  pub free_below : i < free.slots
  free_below = let e = sound.sizes.free_len in let h = below in omega (arith, h, e)

  pub nowhere : at place i ≡ chains
  nowhere = hollow_nowhere vkind slots held free empty place linked chains rack sound m.slots i old hollow.was hollow.empty

  pub is_listed : member i empty.queue ≡ true
  is_listed = hollow_listed vkind slots held free empty place linked chains rack sound m.slots i old hollow.was hollow.empty

  pub not_free : member i free.queue ≡ false
  not_free = hollow_not_free vkind slots held free empty place linked chains rack sound m.slots i old hollow.was hollow.empty

  pub some_box : (k : VKind) → boxes_of k rack ≢ []
  some_box k = some_of_kind vkind slots held free empty place linked chains rack sound m.slots i old hollow.was hollow.empty k

  -- ---- what stands in the slot, as it was read

  module _ (p : Slot X) (read : p ≡ get_or slots i p) where
    same_generation : p.generation ≡ old.generation
    same_generation = ap (λ (s : Slot X). s.generation) (read ∙ get_or_from_slice_get slots i old p hollow.was)

    pub low : p.generation + 1 < 2 ^ 64
    low =
        let e = same_generation in
        let h = hollow_low vkind slots held free empty place linked chains rack sound m.slots i old hollow.was hollow.empty in
        omega (arith, e, h)

    -- the number of the new vnode was given to none
    pub fresh : WasGiven t (record { slot = i; generation = p.generation + 1 }) → ⊥
    fresh = subst (λ (t : Table X). WasGiven t (record { slot = i; generation = p.generation + 1 }) → ⊥) is (λ w. (
        let both : Some w.slot ≡ Some old = sym w.was ∙ hollow.was in
        let one : w.slot ≡ old = cc in
        let k = w.given in
        let o = ap (λ (s : Slot X). s.generation) one in
        let e = same_generation in
        omega (arith, k, o, e)
        ))

    -- ---- the slot with the vnode

    module _ (vd : VData) (name : Option (List ℕ)) (box : X) where
      abbrev new : Slot X
      new = record { vop = Some box; vdata = vd; name = name; generation = p.generation + 1; doomed = false }

      abbrev vid : Vid
      vid = record { slot = i; generation = p.generation + 1 }

      new_is : ◌≡◌ {A = Slot X} (record { vop = Some box; vdata = vd; name = name; generation = old.generation + 1; doomed = false }) new
      new_is = let make : ℕ → Slot X = λ n. record { vop = Some box; vdata = vd; name = name; generation = n + 1; doomed = false } in ap make (sym same_generation)

      pub found : (rows : List (List Vid)) (uses : ℕ) (free' : Queue) (rack' : RackOf X)
          → identity_at {X = X} (record { slots = slice_set slots i new; rows = rows; uses = uses; free = free'; rack = rack' }) vid ≡ Some (identity vd name)
      found rows uses free' rack' = is_live_as (slice_set slots i new) vid new (get_same slots i new below) refl refl

      pub current : (rows : List (List Vid)) (uses : ℕ) (free' : Queue) (rack' : RackOf X) → IsCurrent {X = X} (record { slots = slice_set slots i new; rows = rows; uses = uses; free = free'; rack = rack' }) vid
      current rows uses free' rack' = subst (λ (o : Option (Slot X)). IsSome o) (sym (is_current (slice_set slots i new) vid new (get_same slots i new below) refl refl)) refl

      pub grows : (free' : Queue) (rack' : RackOf X) → Grows t (record { slots = slice_set slots i new; rows = held.rows; uses = held.uses; free = free'; rack = rack' })
      grows free' rack' =
          let after : Table X = record { slots = slice_set slots i new; rows = held.rows; uses = held.uses; free = free'; rack = rack' } in
          let e = same_generation in
          subst (λ (t : Table X). Grows t after) is
          (grows_by inside after i old new hollow.was (hollow_idle vkind slots held free empty place linked chains rack sound m.slots i old hollow.was hollow.empty) refl (omega (arith, e)) (λ z. omega (arith, e)))

      -- the box came from the rack, and the slot into the chain of the identity
      module _ (rack' : RackOf X) (kind : VKind) (of_data : kind ≡ kind_of_data vd) (took : boxes_of kind rack ≡ boxes_of kind rack' ++ box ∷ []) (kept : rack' ≡ with_boxes kind (boxes_of kind rack') rack)
          (by_kind : IsByKind vkind rack → IsByKind vkind rack' × (vkind box ≡ kind)) where
        taken : boxes_of (kind_of_data vd) rack ≡ boxes_of (kind_of_data vd) rack' ++ box ∷ []
        taken = subst (λ k. boxes_of k rack ≡ boxes_of k rack' ++ box ∷ []) of_data took

        rest : rack' ≡ with_boxes (kind_of_data vd) (boxes_of (kind_of_data vd) rack') rack
        rest = subst (λ k. rack' ≡ with_boxes k (boxes_of k rack') rack) of_data kept

        is_kind : vkind box ≡ kind_of_data vd
        is_kind = (by_kind m.rack).1 ∙ of_data

        pub has_filled : (free' : Queue) → free' ≡ record free { queue = free.queue ++ i ∷ [] }
            → HasFilled vkind i vd name vid t (record { slots = slice_set slots i new; rows = held.rows; uses = held.uses; free = free'; rack = rack' })
        has_filled free' queued =
            let make : Slot X → Queue → Table X = λ s q. record { slots = slice_set slots i s; rows = held.rows; uses = held.uses; free = q; rack = rack' } in
            subst (λ (t : Table X). HasFilled vkind i vd name vid t (make new free')) is (record {
              old = old;
              box = box;
              was = hollow.was;
              idle = hollow_idle vkind slots held free empty place linked chains rack sound m.slots i old hollow.was hollow.empty;
              is_kind = is_kind;
              vid_is = ap (λ n. record { slot = i; generation = n + 1 }) same_generation;
              now = ap (λ (s : Slot X). make s free') (sym new_is) ∙ ap (make (record { vop = Some box; vdata = vd; name = name; generation = old.generation + 1; doomed = false })) queued;
              taken = taken;
              others = rest;
            })

        module _ (some : vd ≡ Empty → ⊥) (none : HasNone (identity vd name) t) (place' : List ℕ) (chain count : ℕ) (moved : place' ≡ slice_set place i chain)
            (name' : Option (List ℕ)) (hashed : chain ≡ chain_of (identity vd name') count) (named : name' ≡ name) (counted : count ≡ chains) where
          absent : (s : ℕ) (x : Slot X) → slice_get slots s ≡ Some x → is_live x ≡ true → identity_of x ≡ identity vd name → ⊥
          absent s x e live same =
              subst (λ (t : Table X). HasNone (identity vd name) t) (sym is) none (record { slot = s; generation = x.generation })
              (is_live_as slots (record { slot = s; generation = x.generation }) x e live refl ∙ ap (λ (k : VData × Option (List ℕ)). Some k) same)

          in_chain : place' ≡ slice_set place i (chain_of (identity vd name) chains)
          in_chain = moved ∙ ap (slice_set place i) (hashed ∙ ap (λ (n : Option (List ℕ)). chain_of (identity vd n) count) named ∙ ap (chain_of (identity vd name)) counted)

          pub new_sound : IsSound (slice_set slots i new) held (record free { queue = free.queue ++ i ∷ [] }) (record empty { queue = without i empty.queue }) place' linked chains rack'
          new_sound =
              subst (λ (s : Slot X). IsSound (slice_set slots i s) held (record free { queue = free.queue ++ i ∷ [] }) (record empty { queue = without i empty.queue }) place' linked chains rack') new_is
              (filled_sound vkind slots held free empty place linked chains rack sound m.slots i old hollow.was hollow.empty vd name box rack' some is_kind taken rest absent place' in_chain)

          pub new_matched : (free' : Queue) → IsMatched vkind (record { slots = slice_set slots i new; rows = held.rows; uses = held.uses; free = free'; rack = rack' })
          new_matched free' = record {
            rack = (by_kind m.rack).0;
            slots = subst (λ (s : Slot X). EachSlot (λ n slot. (b : X) → slot.vop ≡ Some b → HasVector vkind slot b) (slice_set slots i s)) new_is
                (filled_has vkind slots held free empty place linked chains rack sound m.slots i old hollow.was hollow.empty vd name box rack' some is_kind taken rest absent place' in_chain);
          }
