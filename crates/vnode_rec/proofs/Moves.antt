-- A slot gets or loses its vector.
use Rattle.std.proofs.Common.{ℕ, ◌≡◌, ◌≢◌, ◌<◌, ◌≤◌, ◌+◌, ◌^◌, true, false, not, ◌==◌, ◌&&◌, cond, refl, sym, ap, ◌∙◌, subst, List, [], ◌∷◌, ◌++◌, length, arith, slice_get, slice_set, Option, Some, None}
use Rattle.std.proofs.lemmas.List.{length-set}
use Rattle.std.proofs.lemmas.Nat.{mod_below}
use Rattle.op_vector.specs.declared.data.VKind.{VKind}
use Rattle.op_vector.specs.declared.data.VKind.TheVariants as kind
use Rattle.op_vector.specs.declared.data.VData.{VData}
use Rattle.op_vector.specs.declared.data.VData.TheVariants.{Empty, Mem, Null, Union}
use Rattle.op_vector.specs.declared.rack.RackOf.{RackOf}
use Rattle.op_vector.specs.Rack.{boxes_of, room_of, with_boxes}
use Rattle.free_list.specs.Queue.{Queue, member, without}
use Rattle.free_list.specs.Links.{at}
use Rattle.free_list.proofs.Queues.{eq_yes, yes_eq, gone, others}
use Rattle.free_list.proofs.Rings.{at_same, at_other}
use Rattle.vnode_rec.specs.declared.slot.Slot.{Slot}
use Rattle.vnode_rec.specs.Chains.{chain_of, mixed_all, seed_of, name_bytes}
use Rattle.vnode_rec.specs.Identity.{identity}
use Rattle.vnode_rec.specs.Holders.{Held, occurs}
use Rattle.vnode_rec.specs.Vnodes.{is_filled, is_live, identity_of, kind_of_data, kind_of_slot, empty_slot, EachSlot, HasVector}
use Rattle.vnode_rec.specs.Sound.{IsSound, IsListed, same_kind, has_kind, place_of}
use Rattle.vnode_rec.proofs.Slots.{and_true, unfilled, box_of, filled_by}
use Rattle.vnode_rec.proofs.Held.{queued_other, queued_same}
use Rattle.vnode_rec.proofs.Boxes.{same_refl, given_len, given_room, taken_len, taken_room, within, some_left, room_for, supplied_as, still_matched}
use Rattle.vnode_rec.proofs.Changed.{empty_idle, same_current, idle_current, changed_sound}

-- the chain of an identity is one of the chains
pub chain_below : (id : VData × Option (List ℕ)) (chains : ℕ) → 0 < chains → chain_of id chains < chains
chain_below id chains h = mod_below (mixed_all (seed_of id.0) (name_bytes id.1)) chains h

-- data other than none asks for a vector that isn't dead
data_alive : (vd : VData) → (vd ≡ Empty → ⊥) → same_kind (kind_of_data vd) kind.Dead ≡ false
data_alive Empty h = absurd (h refl)
data_alive (Mem mount ino) h = refl
data_alive (Null mount lower) h = refl
data_alive (Union mount ino upper lower count) h = refl

module _ {X : Type 0} where
  place_le : (chains : ℕ) (x : Slot X) → 0 < chains → place_of chains x ≤ chains
  place_le chains x h = elim (is_live x) as (λ b. cond b (chain_of (identity_of x) chains) chains ≤ chains) [
    | true ↦ (let k = chain_below (identity_of x) chains h in omega (arith, k))
    | false ↦ omega arith
  ]

module _ {X : Type 0} (vkind : X → VKind) (slots : List (Slot X)) (held : Held) (free empty : Queue) (place : List ℕ) (linked chains : ℕ) (rack : RackOf X) (sound : IsSound slots held free empty place linked chains rack)
    (has : EachSlot (λ s slot. (box : X) → slot.vop ≡ Some box → HasVector vkind slot box) slots)
    (i : ℕ) (old : Slot X) (was : slice_get slots i ≡ Some old) where
  listed : IsListed held.rows free.queue empty.queue place chains i old
  listed = sound.listed i old was

  pub place_below : at place i ≤ chains
  place_below = let e = listed.placed in let k = place_le chains old sound.sizes.some_chains in omega (arith, e, k)

  pub place_within : i < length place
  place_within = let h = within slots i old was in let e = sound.sizes.place_len in omega (arith, h, e)

  own_kind : is_filled old ≡ true → has_kind (kind_of_slot old) old ≡ true
  own_kind full = rw (full, same_refl (kind_of_slot old)) refl

  its_kind : is_filled old ≡ true → (k : VKind) → has_kind k old ≡ same_kind (kind_of_slot old) k
  its_kind full k = ap (λ b. b && same_kind (kind_of_slot old) k) full

  -- the rack has room for the vector of the slot
  pub own_room : (box : X) → old.vop ≡ Some box → length (boxes_of (vkind box) rack) < room_of (vkind box) rack
  own_room box had =
      let full = filled_by old box had in
      let e = (has i old was box had).kind in
      subst (λ k. length (boxes_of k rack) < room_of k rack) (sym e) (room_for slots i old was (kind_of_slot old) rack (sound.supplied (kind_of_slot old)) (own_kind full))

  -- a vnode is doomed
  module _ (full : is_filled old ≡ true) (alive : old.doomed ≡ false) where
    box_alive : (box : X) → old.vop ≡ Some box → same_kind (kind_of_slot old) kind.Dead ≡ false
    box_alive box had = ap (λ b. same_kind (cond b kind.Dead (kind_of_data old.vdata)) kind.Dead) alive ∙ data_alive old.vdata (has i old was box had).some

    pub some_dead : boxes_of kind.Dead rack ≢ []
    some_dead = let b = box_of old full in some_left slots i old was kind.Dead rack (sound.supplied kind.Dead) (its_kind full kind.Dead ∙ box_alive b.0 b.1)

    module _ (mid : RackOf X) (dead : X) (taken : boxes_of kind.Dead rack ≡ boxes_of kind.Dead mid ++ dead ∷ []) (rest : mid ≡ with_boxes kind.Dead (boxes_of kind.Dead mid) rack) (is_dead : vkind dead ≡ kind.Dead)
        (box : X) (had : old.vop ≡ Some box) where
      pub swap_room : length (boxes_of (vkind box) mid) < room_of (vkind box) mid
      swap_room =
          let a = own_room box had in
          let b = taken_len kind.Dead rack mid dead taken rest (vkind box) in
          let c = taken_room kind.Dead rack mid dead taken rest (vkind box) in
          omega (arith, a, b, c)

      new : Slot X
      new = record old { vop = Some dead; doomed = true }

      module _ (rack' : RackOf X) (given : rack' ≡ with_boxes (vkind box) (boxes_of (vkind box) mid ++ box ∷ []) mid) (place' : List ℕ) (moved : place' ≡ slice_set place i chains) where
        pub swap_sound : IsSound (slice_set slots i (record old { vop = Some dead; doomed = true })) held free empty place' linked chains rack'
        swap_sound = changed_sound slots i old (record old { vop = Some dead; doomed = true }) was held free empty place linked chains rack sound free empty place' rack'
            (same_current slots i old (record old { vop = Some dead; doomed = true }) was held.rows refl refl sound.current)
            refl (λ j n. refl) (listed.is_free ∙ ap (λ b. b && (occurs i held.rows == 0)) full)
            refl (λ j n. refl) (listed.is_empty ∙ ap not full)
            (λ z. absurd (let k : ⊥ = cc in k))
            (ap length moved ∙ length-set place i chains) (λ j n. ap (λ l. at l j) moved ∙ at_other place i j chains n) (ap (λ l. at l i) moved ∙ at_same place i chains place_within)
            (λ z. absurd (let k : ⊥ = cc in k))
            (λ k. supplied_as slots i old was k (record old { vop = Some dead; doomed = true }) rack rack' (sound.supplied k)
            (given_room (vkind box) mid rack' box given k ∙ taken_room kind.Dead rack mid dead taken rest k)
            (let a = given_len (vkind box) mid rack' box given k in
            let b = taken_len kind.Dead rack mid dead taken rest k in
            let c : cond {A = ℕ} (same_kind (vkind box) k) 1 0 ≡ cond {A = ℕ} (has_kind k old) 1 0 = ap (λ j. cond {A = ℕ} (same_kind j k) 1 0) (has i old was box had).kind ∙ ap (λ b. cond {A = ℕ} b 1 0) (sym (its_kind full k)) in
            omega (arith, a, b, c)))

        pub swap_has : EachSlot (λ s slot. (b : X) → slot.vop ≡ Some b → HasVector vkind slot b) (slice_set slots i (record old { vop = Some dead; doomed = true }))
        swap_has = still_matched slots i old was vkind (record old { vop = Some dead; doomed = true }) has (λ b e. (
            let one : dead ≡ b = same_some dead b e in
            record { some = (has i old was box had).some; kind = ap vkind (sym one) ∙ is_dead }
            ))
          where
            same_some : (a b : X) → Some a ≡ Some b → a ≡ b
            same_some a b e = cc

  -- a vnode that no row has is reclaimed
  module _ (isin : member i free.queue ≡ true) (low : old.generation + 1 < 2 ^ 64) where
    both : (is_filled old ≡ true) × ((occurs i held.rows == 0) ≡ true)
    both = and_true (is_filled old) (occurs i held.rows == 0) (sym listed.is_free ∙ isin)

    pub free_full : is_filled old ≡ true
    free_full = both.0

    pub free_idle : occurs i held.rows ≡ 0
    free_idle = yes_eq (occurs i held.rows) 0 both.1

    pub not_empty : member i empty.queue ≡ false
    not_empty = listed.is_empty ∙ ap not free_full

    module _ (box : X) (had : old.vop ≡ Some box) (rack' : RackOf X) (given : rack' ≡ with_boxes (vkind box) (boxes_of (vkind box) rack ++ box ∷ []) rack) (place' : List ℕ) (moved : place' ≡ slice_set place i chains) where
      pub emptied_sound : IsSound (slice_set slots i (empty_slot old.generation)) held (record free { queue = without i free.queue }) (record empty { queue = empty.queue ++ i ∷ [] }) place' linked chains rack'
      emptied_sound = changed_sound slots i old (empty_slot old.generation) was held free empty place linked chains rack sound (record free { queue = without i free.queue }) (record empty { queue = empty.queue ++ i ∷ [] }) place' rack'
          (idle_current slots i old (empty_slot old.generation) was held.rows free_idle sound.current)
          refl (λ j n. others j i free.queue n) (gone i free.queue)
          refl (λ j n. queued_other true j i empty.queue n) (queued_same i empty.queue)
          (λ z. low)
          (ap length moved ∙ length-set place i chains) (λ j n. ap (λ l. at l j) moved ∙ at_other place i j chains n) (ap (λ l. at l i) moved ∙ at_same place i chains place_within)
          (λ z. absurd (let k : ⊥ = cc in k))
          (λ k. supplied_as slots i old was k (empty_slot old.generation) rack rack' (sound.supplied k) (given_room (vkind box) rack rack' box given k)
          (let a = given_len (vkind box) rack rack' box given k in
          let c : cond {A = ℕ} (same_kind (vkind box) k) 1 0 ≡ cond {A = ℕ} (has_kind k old) 1 0 = ap (λ j. cond {A = ℕ} (same_kind j k) 1 0) (has i old was box had).kind ∙ ap (λ b. cond {A = ℕ} b 1 0) (sym (its_kind free_full k)) in
          omega (arith, a, c)))

      pub emptied_has : EachSlot (λ s slot. (b : X) → slot.vop ≡ Some b → HasVector vkind slot b) (slice_set slots i (empty_slot old.generation))
      emptied_has = still_matched slots i old was vkind (empty_slot old.generation) has (λ b e. cc)

  -- an empty slot gets a vnode
  module _ (none : old.vop ≡ None) where
    hollow : is_filled old ≡ false
    hollow = unfilled old none

    pub hollow_idle : occurs i held.rows ≡ 0
    hollow_idle = empty_idle slots held.rows i old was hollow sound.current

    pub hollow_low : old.generation + 1 < 2 ^ 64
    hollow_low = listed.low hollow

    pub hollow_listed : member i empty.queue ≡ true
    hollow_listed = listed.is_empty ∙ ap not hollow

    pub hollow_not_free : member i free.queue ≡ false
    hollow_not_free = listed.is_free ∙ ap (λ b. b && (occurs i held.rows == 0)) hollow

    pub hollow_nowhere : at place i ≡ chains
    hollow_nowhere = listed.placed ∙ ap (λ b. cond (b && not old.doomed) (chain_of (identity_of old) chains) chains) hollow

    no_kind : (k : VKind) → has_kind k old ≡ false
    no_kind k = ap (λ b. b && same_kind (kind_of_slot old) k) hollow

    pub some_of_kind : (k : VKind) → boxes_of k rack ≢ []
    some_of_kind k = some_left slots i old was k rack (sound.supplied k) (no_kind k)

    module _ (vd : VData) (name : Option (List ℕ)) (box : X) (rack' : RackOf X) (some : vd ≡ Empty → ⊥) (is_kind : vkind box ≡ kind_of_data vd)
        (taken : boxes_of (kind_of_data vd) rack ≡ boxes_of (kind_of_data vd) rack' ++ box ∷ []) (rest : rack' ≡ with_boxes (kind_of_data vd) (boxes_of (kind_of_data vd) rack') rack)
        (absent : (s : ℕ) (x : Slot X) → slice_get slots s ≡ Some x → is_live x ≡ true → identity_of x ≡ identity vd name → ⊥)
        (place' : List ℕ) (moved : place' ≡ slice_set place i (chain_of (identity vd name) chains)) where
      pub filled_sound : IsSound (slice_set slots i (record { vop = Some box; vdata = vd; name = name; generation = old.generation + 1; doomed = false })) held (record free { queue = free.queue ++ i ∷ [] }) (record empty { queue = without i empty.queue }) place' linked chains rack'
      filled_sound = changed_sound slots i old (record { vop = Some box; vdata = vd; name = name; generation = old.generation + 1; doomed = false }) was held free empty place linked chains rack sound (record free { queue = free.queue ++ i ∷ [] }) (record empty { queue = without i empty.queue }) place' rack'
          (idle_current slots i old (record { vop = Some box; vdata = vd; name = name; generation = old.generation + 1; doomed = false }) was held.rows hollow_idle sound.current)
          refl (λ j n. queued_other true j i free.queue n) (queued_same i free.queue ∙ sym (eq_yes (occurs i held.rows) 0 hollow_idle))
          refl (λ j n. others j i empty.queue n) (gone i empty.queue)
          (λ z. absurd (let k : ⊥ = cc in k))
          (ap length moved ∙ length-set place i (chain_of (identity vd name) chains)) (λ j n. ap (λ l. at l j) moved ∙ at_other place i j (chain_of (identity vd name) chains) n) (ap (λ l. at l i) moved ∙ at_same place i (chain_of (identity vd name) chains) place_within)
          (λ z s x n e live same. absent s x e live same)
          (λ k. supplied_as slots i old was k (record { vop = Some box; vdata = vd; name = name; generation = old.generation + 1; doomed = false }) rack rack' (sound.supplied k) (taken_room (kind_of_data vd) rack rack' box taken rest k)
          (let a = taken_len (kind_of_data vd) rack rack' box taken rest k in
          let b = ap (λ b. cond {A = ℕ} b 1 0) (no_kind k) in
          omega (arith, a, b)))

      pub filled_has : EachSlot (λ s slot. (b : X) → slot.vop ≡ Some b → HasVector vkind slot b) (slice_set slots i (record { vop = Some box; vdata = vd; name = name; generation = old.generation + 1; doomed = false }))
      filled_has = still_matched slots i old was vkind (record { vop = Some box; vdata = vd; name = name; generation = old.generation + 1; doomed = false }) has (λ b e. (
          let one : box ≡ b = same_some box b e in
          record { some = some; kind = ap vkind (sym one) ∙ is_kind }
          ))
        where
          same_some : (a b : X) → Some a ≡ Some b → a ≡ b
          same_some a b e = cc
