-- What contracts see of a table of open descriptors.
use Rattle.std.specs.Prelude.{ℕ, ◌≡◌, ◌≢◌, ◌<◌, ◌≤◌, IsSome, Some, None, refl}
use Rattle.std.specs.Coded.{Coded, code_by, coded×, coded_ℕ}
use Rattle.std.specs.FinMap.{FinMap, get, insert, code}
use Rattle.finite_maps.specs.Keys.{pair_cmp, coded_pair}
use Rattle.vfs_tree.specs.declared.open.Open.{Open}
use Rattle.vfs_tree.specs.contracts.open.Open.{the_row}

-- the numbers of callers and of files that may be open, the opens by caller and descriptor, and the slot of each
pub record Opens : Type 0 where
  pub callers : ℕ
  pub files : ℕ
  pub opens : FinMap pair_cmp Open
  pub slots : FinMap pair_cmp ℕ

-- a table's code: that of its four fields
abbrev pub coded_opens : Coded Opens
coded_opens = code_by (ℕ × (ℕ × (FinMap pair_cmp Open × FinMap pair_cmp ℕ))) (coded× coded_ℕ (coded× coded_ℕ (coded× (code coded_pair the_row.coded) (code coded_pair coded_ℕ)))) (λ t. (t.callers, (t.files, (t.opens, t.slots)))) (λ p. record { callers = p.0; files = p.1.0; opens = p.1.1.0; slots = p.1.1.1 }) (λ _. refl)

-- all 32 descriptors of the caller are open
abbrev pub IsCallerFull : ℕ → Opens → Type 0
IsCallerFull caller t = (fd : ℕ) → fd < 32 → IsSome (get t.opens (caller, fd))

-- the lowest of the caller's descriptors that is free
pub record IsLowestFree (caller : ℕ) (fd : ℕ) (t : Opens) : Type 0 where
  pub within : fd < 32
  pub free : get t.opens (caller, fd) ≡ None
  pub lower : (k : ℕ) → k < fd → IsSome (get t.opens (caller, k))

-- the caller of each open is one of the callers, and its descriptor one of the 32
abbrev pub HasLawfulKeys : Opens → Type 0
HasLawfulKeys t = (key : ℕ × ℕ) → IsSome (get t.opens key) → (1 ≤ key.0) × (key.0 ≤ t.callers) × (key.1 < 32)

-- no descriptor has the slot
abbrev pub IsFreeSlot : ℕ → Opens → Type 0
IsFreeSlot slot t = (key : ℕ × ℕ) → get t.slots key ≢ Some slot

-- a descriptor has got a slot below `files` that no other one has, and the others keep theirs
pub record GetsSlot (key : ℕ × ℕ) (before : Opens) (after : Opens) : Type 0 where
  pub slot : ℕ
  pub below : slot < before.files
  pub free : IsFreeSlot slot before
  pub given : after.slots ≡ insert before.slots key slot

-- the limits are those of the table before
abbrev pub HasLimitsOf : Opens → Opens → Type 0
HasLimitsOf before after = (after.callers ≡ before.callers) × (after.files ≡ before.files)
