-- What is true of the fields of a table of vnodes.
use Rattle.std.specs.Prelude.{ℕ, ◌≡◌, ◌<◌, ◌≤◌, ◌+◌, ◌*◌, ◌^◌, ◌==◌, ◌&&◌, not, Bool, true, false, cond, List, length, Some, All, IsSome, count_by, slice_get}
use Rattle.op_vector.specs.declared.data.VKind.{VKind}
use Rattle.op_vector.specs.declared.data.VKind.TheVariants.{Mem, Null, Union, Dead}
use Rattle.op_vector.specs.declared.data.Vid.{Vid}
use Rattle.op_vector.specs.declared.rack.RackOf.{RackOf}
use Rattle.op_vector.specs.Rack.{boxes_of, room_of}
use Rattle.free_list.specs.Queue.{Queue, member}
use Rattle.free_list.specs.Links.{at}
use Rattle.vnode_rec.specs.declared.slot.Slot.{Slot}
use Rattle.vnode_rec.specs.Chains.{chain_of}
use Rattle.vnode_rec.specs.Holders.{Held, occurs}
use Rattle.vnode_rec.specs.Vnodes.{EachSlot, is_filled, is_live, identity_of, kind_of_slot, slot_in}

-- whether two kinds are one
abbrev pub same_kind : VKind → VKind → Bool
same_kind Mem Mem = true
same_kind Mem Null = false
same_kind Mem Union = false
same_kind Mem Dead = false
same_kind Null Mem = false
same_kind Null Null = true
same_kind Null Union = false
same_kind Null Dead = false
same_kind Union Mem = false
same_kind Union Null = false
same_kind Union Union = true
same_kind Union Dead = false
same_kind Dead Mem = false
same_kind Dead Null = false
same_kind Dead Union = false
same_kind Dead Dead = true

module _ {X : Type 0} where
  -- the chain of a slot's vnode, and the number of chains where it has none that is live
  abbrev pub place_of : ℕ → Slot X → ℕ
  place_of chains slot = cond (is_live slot) (chain_of (identity_of slot) chains) chains

  -- a slot is in the free list where it has a vnode that no row holds, and in the list of empty slots where it has none
  pub record IsListed (rows : List (List Vid)) (free : List ℕ) (empty : List ℕ) (place : List ℕ) (chains : ℕ) (s : ℕ) (slot : Slot X) : Type 0 where
    pub is_free : member s free ≡ (is_filled slot && (occurs s rows == 0))
    pub is_empty : member s empty ≡ not (is_filled slot)
    pub low : is_filled slot ≡ false → slot.generation + 1 < 2 ^ 64
    pub placed : at place s ≡ place_of chains slot

  -- two live vnodes have different identities
  abbrev pub AreUnique : List (Slot X) → Type 0
  AreUnique slots = (s t : ℕ) (x y : Slot X) → slice_get slots s ≡ Some x → slice_get slots t ≡ Some y → is_live x ≡ true → is_live y ≡ true → identity_of x ≡ identity_of y → s ≡ t

  -- whether a slot has a vnode with a vector of that kind
  abbrev pub has_kind : VKind → Slot X → Bool
  has_kind kind slot = is_filled slot && same_kind (kind_of_slot slot) kind

  -- the boxes of each kind in the slots and in the rack are as many as there are slots, and the rack has room for them
  pub record IsSupplied (slots : List (Slot X)) (rack : RackOf X) (kind : VKind) : Type 0 where
    pub enough : length slots ≤ length (boxes_of kind rack) + count_by (has_kind kind) slots
    pub room : length (boxes_of kind rack) + count_by (has_kind kind) slots ≤ room_of kind rack

  -- the number of slots is the same everywhere
  pub record HaveSizes (slots : List (Slot X)) (held : Held) (free : Queue) (empty : Queue) (place : List ℕ) (linked : ℕ) (chains : ℕ) : Type 0 where
    pub held_len : held.slots ≡ length slots
    pub free_len : free.slots ≡ length slots
    pub empty_len : empty.slots ≡ length slots
    pub linked_len : linked ≡ length slots
    pub place_len : length place ≡ length slots
    pub few : 9 * length held.rows ≤ length slots
    pub small : length slots < 2 ^ 32
    pub some_chains : 0 < chains

  -- what is true of every table
  pub record IsSound (slots : List (Slot X)) (held : Held) (free : Queue) (empty : Queue) (place : List ℕ) (linked : ℕ) (chains : ℕ) (rack : RackOf X) : Type 0 where
    pub sizes : HaveSizes slots held free empty place linked chains
    pub current : All (All (λ v. IsSome (slot_in slots v))) held.rows
    pub listed : EachSlot (IsListed held.rows free.queue empty.queue place chains) slots
    pub unique : AreUnique slots
    pub supplied : (kind : VKind) → IsSupplied slots rack kind
