-- Rows of 32 places, one for each caller, as a map by caller and descriptor.
use Rattle.std.specs.Prelude.{ℕ, ◌≡◌, ◌+◌, ◌-◌, ◌*◌, ◌/◌, ◌%◌, ◌==◌, nat_lt, Bool, false, cond, List, [], ◌∷◌, length, count_by, Option, Some, None}
use Rattle.std.specs.List.{slice_index_or, slice_set}
use Rattle.std.specs.FinMap.{FinMap, empty, insert, len}
use Rattle.finite_maps.specs.Keys.{pair_cmp}
use Rattle.vfs_tree.specs.declared.open.Open.{Open}
use Rattle.open_files.specs.declared.places.Seat.{Seat}

-- the place of a caller's descriptor
abbrev pub place_of : ℕ → ℕ → ℕ
place_of caller fd = (caller - 1) * 32 + fd

-- the caller and the descriptor of a place
abbrev pub key_of : ℕ → ℕ × ℕ
key_of place = (place / 32 + 1, place % 32)

-- what f makes of the things in the places from number `from` on, by caller and descriptor
abbrev pub keyed : {S X : Type 0} → (S → X) → ℕ → List (Option S) → FinMap pair_cmp X
keyed f from [] = empty
keyed f from (None ∷ places) = keyed f (from + 1) places
keyed f from (Some s ∷ places) = insert (keyed f (from + 1) places) (key_of from) (f s)

-- the open file of what a descriptor has
abbrev pub file_of : Seat → Open
file_of seat = seat.file

-- the slot of what a descriptor has
abbrev pub slot_of : Seat → ℕ
slot_of seat = seat.slot

-- what a caller's descriptor has
abbrev pub seat_of : List (Option Seat) → ℕ → ℕ → Option Seat
seat_of places caller fd = cond (nat_lt fd 32) (slice_index_or places (place_of caller fd) None) None

-- the places after a caller's descriptor was closed
abbrev pub without_seat : List (Option Seat) → ℕ → ℕ → List (Option Seat)
without_seat places caller fd = cond (nat_lt fd 32) (slice_set places (place_of caller fd) None) places

-- the open in a place was taken out for another, which has its slot
pub record HasExchanged (before : List (Option Seat)) (after : List (Option Seat)) (place : ℕ) (old : Open) (new : Open) : Type 0 where
  pub slot : ℕ
  pub was : slice_index_or before place None ≡ Some (record { slot = slot; file = old })
  pub is : after ≡ slice_set before place (Some (record { slot = slot; file = new }))

-- whether a place has an open with that slot
abbrev pub sits : ℕ → Option Seat → Bool
sits slot None = false
sits slot (Some seat) = seat.slot == slot

-- the opens in the places
abbrev pub opens_in : List (Option Seat) → FinMap pair_cmp Open
opens_in places = keyed file_of 0 places

-- the slots of the opens in the places
abbrev pub slots_in : List (Option Seat) → FinMap pair_cmp ℕ
slots_in places = keyed slot_of 0 places

-- there are 32 places for each caller, and each slot stands once, in a place or among the free ones
pub record IsSeated (callers : ℕ) (files : ℕ) (places : List (Option Seat)) (free : List ℕ) : Type 0 where
  pub rows : length places ≡ callers * 32
  pub once : (slot : ℕ) → count_by (λ x. x == slot) free + count_by (sits slot) places ≡ cond (nat_lt slot files) 1 0
  pub total : length free + len (opens_in places) ≡ files
