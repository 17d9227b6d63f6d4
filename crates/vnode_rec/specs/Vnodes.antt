-- What contracts see of a table of vnodes.
use Rattle.std.specs.Prelude.{ℕ, suc, ◌≡◌, ◌<◌, ◌≤◌, ◌&&◌, Bool, true, false, not, ◌==◌, cond, List, [], ◌∷◌, length, Option, Some, None, IsSome, is_some, unwrap_or, slice_get}
use Rattle.std.specs.Option.{option_map, option_and_then}
use Rattle.op_vector.specs.declared.data.VKind.{VKind}
use Rattle.op_vector.specs.declared.data.VKind.TheVariants as kind
use Rattle.op_vector.specs.declared.data.VData.{VData}
use Rattle.op_vector.specs.declared.data.VData.TheVariants.{Empty, Mem, Null, Union}
use Rattle.op_vector.specs.declared.data.Vid.{Vid}
use Rattle.op_vector.specs.declared.rack.RackOf.{RackOf}
use Rattle.op_vector.specs.Rack.{IsByKind}
use Rattle.free_list.specs.Queue.{Queue}
use Rattle.vnode_rec.specs.declared.slot.Slot.{Slot}
use Rattle.vnode_rec.specs.Identity.{identity, same_identity}
use Rattle.vnode_rec.specs.Holders.{occurs, row_in}

-- the slots, the rows of holders with the number of use rows, the free list and the boxes that no vnode has
pub record Table (X : Type 0) : Type 0 where
  pub slots : List (Slot X)
  pub rows : List (List Vid)
  pub uses : ℕ
  pub free : Queue
  pub rack : RackOf X

-- the kind of vector that data asks for
abbrev pub kind_of_data : VData → VKind
kind_of_data Empty = kind.Dead
kind_of_data (Mem mount ino) = kind.Mem
kind_of_data (Null mount lower) = kind.Null
kind_of_data (Union mount ino upper lower count) = kind.Union

module _ {X : Type 0} where
  -- an empty slot that was filled so often
  abbrev pub empty_slot : ℕ → Slot X
  empty_slot generation = record { vop = None; vdata = Empty; name = None; generation = generation; doomed = false }

  -- whether a slot has a vnode
  abbrev pub is_filled : Slot X → Bool
  is_filled slot = is_some slot.vop

  -- whether a slot has a vnode that isn't doomed
  abbrev pub is_live : Slot X → Bool
  is_live slot = is_filled slot && not slot.doomed

  -- by what the vnode of a slot is found
  abbrev pub identity_of : Slot X → VData × Option (List ℕ)
  identity_of slot = identity slot.vdata slot.name

  -- the slot of that number has a vnode, or had one, with this identity
  abbrev pub HasIdentity : VData × Option (List ℕ) → List (Slot X) → ℕ → Type 0
  HasIdentity id slots s = (slot : Slot X) × (slice_get slots s ≡ Some slot) × (identity_of slot ≡ id)

  -- the kind of vector that a slot's vnode has
  abbrev pub kind_of_slot : Slot X → VKind
  kind_of_slot slot = cond slot.doomed kind.Dead (kind_of_data slot.vdata)

  -- a slot, where its vnode has that generation
  abbrev pub if_current : ℕ → Slot X → Option (Slot X)
  if_current generation slot = cond (is_filled slot && (slot.generation == generation)) (Some slot) None

  -- the slot of a vnode that is current
  abbrev pub slot_in : List (Slot X) → Vid → Option (Slot X)
  slot_in slots vid = option_and_then (if_current vid.generation) (slice_get slots vid.slot)

  abbrev pub slot_at : Table X → Vid → Option (Slot X)
  slot_at t vid = slot_in t.slots vid

  -- a vnode is current where its slot isn't empty and has its generation
  abbrev pub IsCurrent : Table X → Vid → Type 0
  IsCurrent t vid = IsSome (slot_at t vid)

  -- the operation vector, the data and the name of a vnode that is current
  abbrev pub box_at : Table X → Vid → Option X
  box_at t vid = option_and_then (λ slot. slot.vop) (slot_at t vid)

  abbrev pub data_at : Table X → Vid → Option VData
  data_at t vid = option_map (λ slot. slot.vdata) (slot_at t vid)

  -- the data of a vnode, which is `Empty` where the vnode isn't current
  abbrev pub data_in : Table X → Vid → VData
  data_in t vid = unwrap_or (data_at t vid) Empty

  abbrev pub name_at : Table X → Vid → Option (List ℕ)
  name_at t vid = option_and_then (λ slot. slot.name) (slot_at t vid)

  -- the identity of a vnode that is current and not doomed
  abbrev pub identity_if_live : Slot X → Option (VData × Option (List ℕ))
  identity_if_live slot = cond slot.doomed None (Some (identity_of slot))

  abbrev pub identity_at : Table X → Vid → Option (VData × Option (List ℕ))
  identity_at t vid = option_and_then identity_if_live (slot_at t vid)

  -- a vnode is live where it is current and not doomed
  abbrev pub IsLive : Table X → Vid → Type 0
  IsLive t vid = IsSome (identity_at t vid)

  -- no live vnode has this identity
  abbrev pub HasNone : VData × Option (List ℕ) → Table X → Type 0
  HasNone id t = (vid : Vid) → identity_at t vid ≡ Some id → ⊥

  -- the first of these slots, numbered from `s` on, whose vnode isn't doomed and has this identity
  abbrev pub seek : VData × Option (List ℕ) → ℕ → List (Slot X) → Option Vid
  seek id s [] = None
  seek id s (slot ∷ slots) = cond (is_live slot && same_identity (identity_of slot) id) (Some (record { slot = s; generation = slot.generation })) (seek id (suc s) slots)

  -- the vnode that isn't doomed and has this identity
  abbrev pub vnode_of : VData × Option (List ℕ) → Table X → Option Vid
  vnode_of id t = seek id 0 t.slots

  -- what holds of each slot with its number
  abbrev pub EachSlot : (ℕ → Slot X → Type 0) → List (Slot X) → Type 0
  EachSlot P slots = (s : ℕ) (slot : Slot X) → slice_get slots s ≡ Some slot → P s slot

  -- no slot is empty
  abbrev pub AreFilled : List (Slot X) → Type 0
  AreFilled slots = EachSlot (λ s slot. is_filled slot ≡ true) slots

  -- the slot is empty
  pub record IsEmptyAt (slots : List (Slot X)) (s : ℕ) : Type 0 where
    pub slot : Slot X
    pub was : slice_get slots s ≡ Some slot
    pub empty : slot.vop ≡ None

  -- a vnode is or was in its slot
  pub record WasGiven (t : Table X) (vid : Vid) : Type 0 where
    pub slot : Slot X
    pub was : slice_get t.slots vid.slot ≡ Some slot
    pub given : vid.generation ≤ slot.generation

  -- held vnodes stay as they are, and no vnode that was given comes back as another
  pub record Grows (t : Table X) (u : Table X) : Type 0 where
    pub held : (vid : Vid) → 0 < occurs vid.slot t.rows → slot_at u vid ≡ slot_at t vid
    pub given : (vid : Vid) → WasGiven t vid → WasGiven u vid
    pub back : (vid : Vid) → WasGiven t vid → IsCurrent u vid → slot_at u vid ≡ slot_at t vid

-- some row has fewer than nine vnodes
abbrev pub HasRoom : List (List Vid) → Type 0
HasRoom rows = (row : ℕ) × (row < length rows) × (length (row_in rows row) < 9)

-- the vnode of a slot has data, and a vector of the kind of its data, or of kind Dead where it is doomed
pub record HasVector {X : Type 0} (vkind : X → VKind) (slot : Slot X) (box : X) : Type 0 where
  pub some : slot.vdata ≡ Empty → ⊥
  pub kind : vkind box ≡ kind_of_slot slot

-- each box of the rack stands in the list of its kind, and each vnode has a vector of its kind
pub record IsMatched {X : Type 0} (vkind : X → VKind) (t : Table X) : Type 0 where
  pub rack : IsByKind vkind t.rack
  pub slots : EachSlot (λ s slot. (box : X) → slot.vop ≡ Some box → HasVector vkind slot box) t.slots
