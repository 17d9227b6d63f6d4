-- A union's pair is computed again.
use Rattle.std.specs.Option.{option_and_then, option_map}
use Rattle.std.proofs.Common.{ℕ, ◌≡◌, ◌<◌, ◌+◌, cond, true, ◌&&◌, refl, sym, ap, ◌∙◌, subst, List, length, get_or, slice_get, slice_set, unwrap_or, Option, Some, None}
use Rattle.std.proofs.lemmas.Option.{get_or_from_slice_get, slice_get_within}
use Rattle.op_vector.specs.declared.data.VKind.{VKind}
use Rattle.op_vector.specs.declared.data.VKind.TheVariants as kind
use Rattle.op_vector.specs.Rack.{boxes_of}
use Rattle.op_vector.specs.declared.data.VData.{VData}
use Rattle.op_vector.specs.declared.data.VData.TheVariants.{Empty, Mem, Null, Union}
use Rattle.op_vector.specs.declared.data.Vid.{Vid}
use Rattle.op_vector.specs.declared.rack.RackOf.{RackOf}
use Rattle.free_list.specs.Queue.{Queue}
use Rattle.vnode_rec.specs.declared.slot.Slot.{Slot}
use Rattle.vnode_rec.specs.Identity.{identity}
use Rattle.vnode_rec.specs.Chains.{chain_of}
use Rattle.vnode_rec.specs.Holders.{Held}
use Rattle.vnode_rec.specs.Vnodes.{is_filled, is_live, identity_of, kind_of_data, kind_of_slot, EachSlot, HasVector, Table, IsCurrent, IsMatched, name_at, data_in}
use Rattle.vnode_rec.specs.Effects.{with_pair, TakesPair, HasPair}
use Rattle.vnode_rec.specs.Sound.{IsSound, same_kind}
use Rattle.vnode_rec.proofs.Boxes.{supplied_as, still_matched}
use Rattle.vnode_rec.proofs.Changed.{same_current, changed_sound}
use Rattle.vnode_rec.proofs.Slots.{IsFound, found}

-- the identity stays
same_identity : (upper lower : Option Vid) (count : ℕ) (vd : VData) (name : Option (List ℕ)) → TakesPair lower name vd → identity (with_pair upper lower count vd) name ≡ identity vd name
same_identity upper lower count Empty name h = refl
same_identity upper lower count (Mem mount ino) name h = refl
same_identity upper lower count (Null mount below) name h = refl
same_identity upper lower count (Union mount ino u l k) None h = refl
same_identity upper lower count (Union mount ino u l k) (Some name) h = ap (λ (o : Option Vid). (Union mount ino None o 0, Some name)) h

-- so does the kind, and data is not none
same_kind_of : (upper lower : Option Vid) (count : ℕ) (vd : VData) → kind_of_data (with_pair upper lower count vd) ≡ kind_of_data vd
same_kind_of upper lower count Empty = refl
same_kind_of upper lower count (Mem mount ino) = refl
same_kind_of upper lower count (Null mount below) = refl
same_kind_of upper lower count (Union mount ino u l k) = refl

still_some : (upper lower : Option Vid) (count : ℕ) (vd : VData) → (vd ≡ Empty → ⊥) → with_pair upper lower count vd ≡ Empty → ⊥
still_some upper lower count Empty h e = h refl
still_some upper lower count (Mem mount ino) h e = cc
still_some upper lower count (Null mount below) h e = cc
still_some upper lower count (Union mount ino u l k) h e = cc

module _ {X : Type 0} (slots : List (Slot X)) (i : ℕ) (old : Slot X) (was : slice_get slots i ≡ Some old) (full : is_filled old ≡ true) (upper lower : Option Vid) (count : ℕ) (takes : TakesPair lower old.name old.vdata) where
  slot_kind : kind_of_slot (record old { vdata = with_pair upper lower count old.vdata }) ≡ kind_of_slot old
  slot_kind = ap (λ k. cond {A = VKind} old.doomed kind.Dead k) (same_kind_of upper lower count old.vdata)

  pub pair_sound : (held : Held) (free empty : Queue) (place : List ℕ) (linked chains : ℕ) (rack : RackOf X) → IsSound slots held free empty place linked chains rack → IsSound (slice_set slots i (record old { vdata = with_pair upper lower count old.vdata })) held free empty place linked chains rack
  pair_sound held free empty place linked chains rack sound =
      let new : Slot X = record old { vdata = with_pair upper lower count old.vdata } in
      let l = sound.listed i old was in
      let id : identity_of new ≡ identity_of old = same_identity upper lower count old.vdata old.name takes in
      changed_sound slots i old (record old { vdata = with_pair upper lower count old.vdata }) was held free empty place linked chains rack sound free empty place rack
      (same_current slots i old (record old { vdata = with_pair upper lower count old.vdata }) was held.rows full refl sound.current)
      refl (λ j n. refl) l.is_free
      refl (λ j n. refl) l.is_empty
      l.low
      refl (λ j n. refl) (l.placed ∙ ap (λ k. cond {A = ℕ} (is_live old) (chain_of k chains) chains) (sym id))
      (λ live s x n e alive same. n (sound.unique s i x old e was alive live (same ∙ id)))
      (λ k. supplied_as slots i old was k (record old { vdata = with_pair upper lower count old.vdata }) rack rack (sound.supplied k) refl (ap (λ j. length (boxes_of k rack) + cond {A = ℕ} (is_filled old && same_kind j k) 1 0) slot_kind))

  pub pair_has : (vkind : X → VKind) → EachSlot (λ s slot. (box : X) → slot.vop ≡ Some box → HasVector vkind slot box) slots
      → EachSlot (λ s slot. (box : X) → slot.vop ≡ Some box → HasVector vkind slot box) (slice_set slots i (record old { vdata = with_pair upper lower count old.vdata }))
  pair_has vkind has = still_matched slots i old was vkind (record old { vdata = with_pair upper lower count old.vdata }) has (λ b e. (let h = has i old was b e in record { some = still_some upper lower count old.vdata h.some; kind = h.kind ∙ sym slot_kind }))

-- a vnode's data is read, and written with the pair
module _ {X : Type 0} (slots : List (Slot X)) (held : Held) (free empty : Queue) (place : List ℕ) (linked chains : ℕ) (rack : RackOf X) (sound : IsSound slots held free empty place linked chains rack)
    {t : Table X} (is : ◌≡◌ {A = Table X} (record { slots = slots; rows = held.rows; uses = held.uses; free = free; rack = rack }) t)
    (v : Vid) (current : IsCurrent t v) (upper lower : Option Vid) (count : ℕ) (takes : TakesPair lower (name_at t v) (data_in t v)) where
  o : IsFound slots v
  o = found slots v (subst (λ (t : Table X). IsCurrent t v) (sym is) current)

  pub pair_below : v.slot < length slots
  pair_below = slice_get_within slots v.slot o.slot o.was

  asked : TakesPair lower o.slot.name o.slot.vdata
  asked =
      subst (λ (w : Option (Slot X)). TakesPair lower (option_and_then (λ (x : Slot X). x.name) w) (unwrap_or (option_map (λ (x : Slot X). x.vdata) w) Empty)) o.here
      (subst (λ (t : Table X). TakesPair lower (name_at t v) (data_in t v)) (sym is) takes)

  module _ (p : Slot X) (read : p ≡ get_or slots v.slot p) (vd : VData) (paired : vd ≡ with_pair upper lower count p.vdata) where
    abbrev new : Slot X
    new = record { vop = p.vop; vdata = vd; name = p.name; generation = p.generation; doomed = p.doomed }

    new_is : ◌≡◌ {A = Slot X} (record o.slot { vdata = with_pair upper lower count o.slot.vdata }) new
    new_is =
        sym (ap (λ (d : VData). record { vop = p.vop; vdata = d; name = p.name; generation = p.generation; doomed = p.doomed }) paired
        ∙ ap (λ (x : Slot X). record x { vdata = with_pair upper lower count x.vdata }) (read ∙ get_or_from_slice_get slots v.slot o.slot p o.was))

    pub new_sound : IsSound (slice_set slots v.slot new) held free empty place linked chains rack
    new_sound =
        subst (λ (s : Slot X). IsSound (slice_set slots v.slot s) held free empty place linked chains rack) new_is
        (pair_sound slots v.slot o.slot o.was o.filled upper lower count asked held free empty place linked chains rack sound)

    abbrev after : Table X
    after = record { slots = slice_set slots v.slot new; rows = held.rows; uses = held.uses; free = free; rack = rack }

    pub has_pair : HasPair v upper lower count t after
    has_pair = subst (λ (t : Table X). HasPair v upper lower count t after) is (record {
      old = o.slot;
      was = o.was;
      now = ap (λ (s : Slot X). record { slots = slice_set slots v.slot s; rows = held.rows; uses = held.uses; free = free; rack = rack }) (sym new_is);
    })

    pub new_matched : (vkind : X → VKind) → IsMatched vkind t → IsMatched vkind after
    new_matched vkind = subst (λ (t : Table X). IsMatched vkind t → IsMatched vkind after) is (λ m. record {
      rack = m.rack;
      slots = subst (λ (s : Slot X). EachSlot (λ n slot. (b : X) → slot.vop ≡ Some b → HasVector vkind slot b) (slice_set slots v.slot s)) new_is (pair_has slots v.slot o.slot o.was o.filled upper lower count asked vkind m.slots);
    })
