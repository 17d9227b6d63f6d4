-- The locks that callers hold on vnodes, and which of them conflict.
use Rattle.std.specs.Prelude.{ℕ, Bool, false, true, ◌≡◌, ◌<◌, ◌≤◌, ◌+◌, ◌⊎◌, ◌||◌, ◌&&◌, ◌==◌, not, List, [], length, take, All, slice_index_or, slice_set}
use Rattle.op_vector.specs.declared.data.Vid.{Vid}
use Rattle.vnode_lock.specs.declared.answer.Mode.{Mode}
use Rattle.vnode_lock.specs.declared.answer.Mode.TheVariants.{Shared, Exclusive}
use Rattle.vnode_lock.specs.declared.answer.LockAnswer.{LockAnswer}
use Rattle.vnode_lock.specs.declared.answer.LockAnswer.TheVariants.{Taken, Held}
use Rattle.vnode_lock.specs.Listed.{has_slot, AreBelow, Rows}

-- how many slots and callers there are, and the vnodes that each caller holds shared and exclusively, by its number;
-- number 0 is no caller
pub record Locks : Type 0 where
  pub slots : ℕ
  pub callers : ℕ
  pub shared : List (List Vid)
  pub exclusive : List (List Vid)

-- the vnodes that a caller holds shared
abbrev pub shared_of : ℕ → Locks → List Vid
shared_of caller locks = slice_index_or locks.shared caller []

-- the vnodes that a caller holds exclusively
abbrev pub exclusive_of : ℕ → Locks → List Vid
exclusive_of caller locks = slice_index_or locks.exclusive caller []

-- the table with other locks of a caller
abbrev pub with_locks : ℕ → List Vid → List Vid → Locks → Locks
with_locks caller shared exclusive locks =
    record locks { shared = slice_set locks.shared caller shared; exclusive = slice_set locks.exclusive caller exclusive }

-- the number is a caller's
abbrev pub IsCaller : ℕ → Locks → Type 0
IsCaller caller locks = (0 < caller) × (caller ≤ locks.callers)

-- the caller holds no lock
abbrev pub HoldsNothing : ℕ → Locks → Type 0
HoldsNothing caller locks = (shared_of caller locks ≡ []) × (exclusive_of caller locks ≡ [])

-- nobody holds the vnode exclusively
abbrev pub IsNowhereExclusive : Locks → Vid → Type 0
IsNowhereExclusive locks vid = (by : ℕ) → has_slot vid.slot (exclusive_of by locks) ≡ false

-- whether a caller's locks keep others from a lock of that mode on the slot
abbrev pub bars : ℕ → Mode → ℕ → Locks → Bool
bars by Shared slot locks = has_slot slot (exclusive_of by locks)
bars by Exclusive slot locks = has_slot slot (exclusive_of by locks) || has_slot slot (shared_of by locks)

-- whether `by` is another than the caller, and holds the vnode in conflict with its lock of that mode
abbrev pub conflicts : ℕ → Locks → ℕ → Mode → Vid → Bool
conflicts by locks caller mode vid = not (by == caller) && bars by mode vid.slot locks

-- nobody else holds the vnode in conflict with the caller's lock of that mode
abbrev pub IsFree : Locks → ℕ → Mode → Vid → Type 0
IsFree locks caller mode vid = (by : ℕ) → conflicts by locks caller mode vid ≡ false

-- the least of the others that hold the vnode in conflict
pub record IsLeastHolder (locks : Locks) (caller : ℕ) (mode : Mode) (vid : Vid) (by : ℕ) : Type 0 where
  pub holds : conflicts by locks caller mode vid ≡ true
  pub least : (lower : ℕ) → lower < by → conflicts lower locks caller mode vid ≡ false

-- the first vnode of a list that isn't free, and the least of the others that hold it in conflict
pub record IsFirstHeld (locks : Locks) (caller : ℕ) (mode : Mode) (vids : List Vid) (vid : Vid) (by : ℕ) : Type 0 where
  pub place : ℕ
  pub within : place < length vids
  pub is : slice_index_or vids place vid ≡ vid
  pub before : All (IsFree locks caller mode) (take place vids)
  pub holder : IsLeastHolder locks caller mode vid by

-- all wanted vnodes are free
abbrev pub AreFree : Locks → ℕ → List Vid → List Vid → Type 0
AreFree locks caller shared exclusive = All (IsFree locks caller Exclusive) exclusive × All (IsFree locks caller Shared) shared

-- the first wanted vnode that isn't free, those wanted exclusively before those wanted shared
abbrev pub IsFirstConflict : Locks → ℕ → List Vid → List Vid → Vid → ℕ → Type 0
IsFirstConflict locks caller shared exclusive vid by =
    IsFirstHeld locks caller Exclusive exclusive vid by
    ⊎ (All (IsFree locks caller Exclusive) exclusive × IsFirstHeld locks caller Shared shared vid by)

-- what holds where the locks were taken
abbrev pub OnTaken : LockAnswer → Type 0 → Type 0
OnTaken Taken P = P
OnTaken (Held vid by) P = Unit {0}

-- what holds where a vnode is held
abbrev pub IfHeld : LockAnswer → (Vid → ℕ → Type 0) → Type 0
IfHeld Taken P = Unit {0}
IfHeld (Held vid by) P = P vid by

-- what each table keeps: what one caller holds exclusively no other holds, only callers hold locks, and each lock is on
-- a slot of the table
pub record IsLawful (locks : Locks) : Type 0 where
  pub apart : (caller : ℕ) (vid : Vid) → has_slot vid.slot (exclusive_of caller locks) ≡ true → IsFree locks caller Exclusive vid
  pub shared_len : length locks.shared ≡ locks.callers + 1
  pub exclusive_len : length locks.exclusive ≡ locks.callers + 1
  pub nobody : HoldsNothing 0 locks
  pub shared_below : All (AreBelow locks.slots) locks.shared
  pub exclusive_below : All (AreBelow locks.slots) locks.exclusive

-- the table of these lists
abbrev pub locks_of : Rows → Rows → ℕ → ℕ → Locks
locks_of shared exclusive slots callers = record { slots = slots; callers = callers; shared = shared.rows; exclusive = exclusive.rows }

-- the lists of both modes are a table's, for its slots
pub record IsTable (shared : Rows) (exclusive : Rows) (slots : ℕ) (callers : ℕ) : Type 0 where
  pub lawful : IsLawful (locks_of shared exclusive slots callers)
  pub shared_slots : shared.slots ≡ slots
  pub exclusive_slots : exclusive.slots ≡ slots
