-- How the table is kept: a seat for each mount, in the order of their numbers.
use Rattle.std.specs.Prelude.{ℕ, ◌+◌, Bool, not, ◌&&◌, ◌==◌, cond, nat_lt, ◌≡◌, ◌≢◌, ◌<◌, ◌≤◌, List, [], ◌∷◌, length, Option, Some, None, is_some, map, take, slice_set, slice_index_or, All}
use Rattle.std.specs.List.{HoldsAt, count_by}
use Rattle.std.specs.Ordering.{nat_cmp}
use Rattle.std.specs.FinMap.{find, from_entries}
use Rattle.vfs_tree.specs.Place.{Seen}
use Rattle.vfs_tree.specs.Mounts.{Mounts, Leaving, layers, is_on, cut_with}
use Rattle.mount_table.specs.declared.seat.Seat.{Seat}
use Rattle.mount_table.specs.Table.{Table}

-- seats by the numbers of their mounts, with what a function says of each
abbrev pub numbered : {X : Type 0} → (Seat → X) → List Seat → List (ℕ × X)
numbered f seats = map (λ seat. (seat.mount.number, f seat)) seats

-- the mounts of seats
abbrev pub mounts_in : List Seat → Mounts
mounts_in seats = from_entries (numbered (λ seat. seat.mount) seats)

abbrev pub leaver_of : ℕ → Option ℕ → List (ℕ × ℕ) → List (ℕ × ℕ)
leaver_of number (Some caller) rest = (caller, number) ∷ rest
leaver_of number None rest = rest

-- the callers that are leaving a mount of these, each with the mount's number
abbrev pub leavers : List Seat → List (ℕ × ℕ)
leavers [] = []
leavers (seat ∷ rest) = leaver_of seat.mount.number seat.left_by (leavers rest)

-- by caller, the mount of these that the caller is leaving
abbrev pub leaving_in : List Seat → Leaving
leaving_in seats = from_entries (leavers seats)

-- the table of these seats
abbrev pub table_of : List Seat → ℕ → ℕ → Table
table_of seats next most = record {
  mounts = mounts_in seats;
  leaving = leaving_in seats;
  next_mount = next;
  slots = from_entries (numbered (λ seat. seat.slot) seats);
  most = most;
}

-- the numbers of the mounts rise, from `low` on and below `high`
abbrev pub AreRising : ℕ → List Seat → ℕ → Type 0
AreRising low [] high = low ≤ high
AreRising low (seat ∷ rest) high = (low ≤ seat.mount.number) × AreRising (seat.mount.number + 1) rest high

-- in which mounts the layers of each mount lie, by its number
abbrev pub layers_of : List Seat → List (ℕ × List ℕ)
layers_of seats = numbered (λ seat. layers seat.mount.kind) seats

abbrev pub AreLowerIn : List (ℕ × List ℕ) → Type 0
AreLowerIn [] = Unit {0}
AreLowerIn (entry ∷ rest) = All (λ layer. layer < entry.0) entry.1 × AreLowerIn rest

-- the layers of each mount lie in mounts with smaller numbers
abbrev pub AreLower : List Seat → Type 0
AreLower seats = AreLowerIn (layers_of seats)

-- each key stands once
abbrev pub Once : List (ℕ × ℕ) → Type 0
Once [] = Unit {0}
Once (entry ∷ rest) = (find nat_cmp entry.0 rest ≡ None) × Once rest

-- how often a slot stands in a list
abbrev pub occurs : ℕ → List ℕ → ℕ
occurs slot slots = count_by (λ s. s == slot) slots

-- each slot below `most` is one mount's or free, and there is room for all that may become free
pub record AreSlotted (slots : List ℕ) (free : List ℕ) (most : ℕ) (capacity : ℕ) : Type 0 where
  pub once : (slot : ℕ) → occurs slot slots + occurs slot free ≡ cond (nat_lt slot most) 1 0
  pub all : length slots + length free ≡ most
  pub room : most ≤ capacity

-- what the fields of a table keep
pub record IsKept (seats : List Seat) (free : List ℕ) (next : ℕ) (most : ℕ) (capacity : ℕ) : Type 0 where
  pub rising : AreRising 0 seats next
  pub lower : AreLower seats
  pub callers : Once (leavers seats)
  pub slotted : AreSlotted (map (λ seat. seat.slot) seats) free most capacity

-- the first seat whose mount has a number
pub record IsPlace (seats : List Seat) (number : ℕ) (at : ℕ) : Type 0 where
  pub within : at < length seats
  pub is : HoldsAt (λ seat. seat.mount.number ≡ number) seats at
  pub first : All (λ seat. seat.mount.number ≢ number) (take at seats)

-- whether the mount of a seat covers a place
abbrev pub covers_seat : Seen → Seat → Bool
covers_seat place seat = is_on seat.mount.on place && not (is_some seat.left_by)

-- a seat whose mount is cut where it is the mount, or stands on it
abbrev pub cut_seat : Mounts → ℕ → Seat → Seat
cut_seat mounts number seat = record seat { mount = cut_with mounts number seat.mount }

-- a mount and those that stand on it were cut, and the caller is leaving it
pub record IsLeft (seats : List Seat) (number : ℕ) (caller : ℕ) (left : List Seat) : Type 0 where
  pub place : ℕ
  pub is : IsPlace seats number place
  pub cut : (other : Seat) → let now = map (cut_seat (mounts_in seats) number) seats in left ≡ slice_set now place (record (slice_index_or now place other) { left_by = Some caller })
