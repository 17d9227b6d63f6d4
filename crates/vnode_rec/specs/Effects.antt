-- What the calls change in a table of vnodes.
use Rattle.std.specs.Prelude.{ℕ, ◌≡◌, ◌+◌, ◌-◌, ◌^◌, ◌⊎◌, Bool, true, false, ◌==◌, List, [], ◌∷◌, ◌++◌, Option, Some, None, slice_get, slice_set}
use Rattle.op_vector.specs.declared.data.VKind.{VKind}
use Rattle.op_vector.specs.declared.data.VKind.TheVariants as kind
use Rattle.op_vector.specs.declared.data.VData.{VData}
use Rattle.op_vector.specs.declared.data.VData.TheVariants.{Empty, Mem, Null, Union}
use Rattle.op_vector.specs.declared.data.Vid.{Vid}
use Rattle.op_vector.specs.declared.rack.RackOf.{RackOf}
use Rattle.op_vector.specs.Rack.{boxes_of, with_boxes}
use Rattle.free_list.specs.Queue.{without}
use Rattle.vnode_rec.specs.declared.slot.Slot.{Slot}
use Rattle.vnode_rec.specs.Holders.{occurs, row_in, pushed}
use Rattle.vnode_rec.specs.Vnodes.{Table, AreFilled, IsEmptyAt, IsCurrent, kind_of_data, empty_slot}

-- a queue with a slot at its back, where the slot is free
abbrev pub queued : Bool → ℕ → List ℕ → List ℕ
queued true s queue = queue ++ s ∷ []
queued false s queue = queue

-- data with another computed pair
abbrev pub with_pair : Option Vid → Option Vid → ℕ → VData → VData
with_pair upper lower count Empty = Empty
with_pair upper lower count (Mem mount ino) = Mem mount ino
with_pair upper lower count (Null mount below) = Null mount below
with_pair upper lower count (Union mount ino u l c) = Union mount ino upper lower count

-- data is a union's, and a vnode with a name keeps its lower vnode
abbrev pub TakesPair : Option Vid → Option (List ℕ) → VData → Type 0
TakesPair lower name Empty = ⊥
TakesPair lower name (Mem mount ino) = ⊥
TakesPair lower name (Null mount below) = ⊥
TakesPair lower None (Union mount ino u l c) = Unit {0}
TakesPair lower (Some name) (Union mount ino u l c) = lower ≡ l

module _ {X : Type 0} where
  -- a vnode is put on a row, and its slot isn't free
  abbrev pub took : ℕ → Vid → Table X → Table X
  took row vid t = record t { rows = pushed row vid t.rows; free = record t.free { queue = without vid.slot t.free.queue } }

  -- the last vnode of a row is taken out, and goes to the back of the free list where no row has it
  pub record LeftRow (row : ℕ) (t : Table X) (vid : Vid) (u : Table X) : Type 0 where
    pub was : row_in t.rows row ≡ row_in u.rows row ++ vid ∷ []
    pub current : IsCurrent t vid
    pub now : u ≡ record t { rows = slice_set t.rows row (row_in u.rows row); free = record t.free { queue = queued (occurs vid.slot u.rows == 0) vid.slot t.free.queue } }

  -- a union has another computed pair
  pub record HasPair (vid : Vid) (upper : Option Vid) (lower : Option Vid) (count : ℕ) (t : Table X) (u : Table X) : Type 0 where
    pub old : Slot X
    pub was : slice_get t.slots vid.slot ≡ Some old
    pub now : u ≡ record t { slots = slice_set t.slots vid.slot (record old { vdata = with_pair upper lower count old.vdata }) }

  -- no slot is empty, and the free list is empty or the generation of its front is the greatest word
  abbrev pub HasNoSlot : Table X → Type 0
  HasNoSlot t = AreFilled t.slots × ((t.free.queue ≡ []) ⊎ ((s : ℕ) × (slot : Slot X) × (t.free.queue ≡ s ∷ without s t.free.queue) × (slice_get t.slots s ≡ Some slot) × (slot.generation ≡ 2 ^ 64 - 1)))

module _ {X : Type 0} (vkind : X → VKind) where
  -- a box of kind Dead took the place of the box of a vnode, which went to the rack
  pub record HasSwapped (vid : Vid) (t : Table X) (u : Table X) : Type 0 where
    pub old : Slot X
    pub box : X
    pub dead : X
    pub mid : RackOf X
    pub was : slice_get t.slots vid.slot ≡ Some old
    pub had : old.vop ≡ Some box
    pub is_dead : vkind dead ≡ kind.Dead
    pub now : u ≡ record t { slots = slice_set t.slots vid.slot (record old { vop = Some dead; doomed = true }); rack = u.rack }
    pub taken : boxes_of kind.Dead t.rack ≡ boxes_of kind.Dead mid ++ dead ∷ []
    pub others : mid ≡ with_boxes kind.Dead (boxes_of kind.Dead mid) t.rack
    pub given : u.rack ≡ with_boxes (vkind box) (boxes_of (vkind box) mid ++ box ∷ []) mid

  -- a slot that no row holds was emptied, and its box went to the rack
  pub record HasEmptied (s : ℕ) (t : Table X) (u : Table X) : Type 0 where
    pub old : Slot X
    pub box : X
    pub was : slice_get t.slots s ≡ Some old
    pub had : old.vop ≡ Some box
    pub idle : occurs s t.rows ≡ 0
    pub now : u ≡ record t { slots = slice_set t.slots s (empty_slot old.generation); free = record t.free { queue = without s t.free.queue }; rack = u.rack }
    pub given : u.rack ≡ with_boxes (vkind box) (boxes_of (vkind box) t.rack ++ box ∷ []) t.rack

  -- an empty slot, or the front of the free list, which was emptied
  abbrev pub HasClaimed : ℕ → Table X → Table X → Type 0
  HasClaimed s t u = (IsEmptyAt t.slots s × (u ≡ t)) ⊎ (AreFilled t.slots × (t.free.queue ≡ s ∷ without s t.free.queue) × HasEmptied s t u)

  -- an empty slot, which no row holds, got data, a name, a box of the data's kind and the next generation
  pub record HasFilled (s : ℕ) (vd : VData) (name : Option (List ℕ)) (vid : Vid) (t : Table X) (u : Table X) : Type 0 where
    pub old : Slot X
    pub box : X
    pub was : slice_get t.slots s ≡ Some old
    pub idle : occurs s t.rows ≡ 0
    pub is_kind : vkind box ≡ kind_of_data vd
    pub vid_is : vid ≡ record { slot = s; generation = old.generation + 1 }
    pub now : u ≡ record t { slots = slice_set t.slots s (record { vop = Some box; vdata = vd; name = name; generation = old.generation + 1; doomed = false }); free = record t.free { queue = t.free.queue ++ s ∷ [] }; rack = u.rack }
    pub taken : boxes_of (kind_of_data vd) t.rack ≡ boxes_of (kind_of_data vd) u.rack ++ box ∷ []
    pub others : u.rack ≡ with_boxes (kind_of_data vd) (boxes_of (kind_of_data vd) u.rack) t.rack
