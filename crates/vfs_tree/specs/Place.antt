-- A place: through which mounts a file is seen.
use Rattle.std.specs.Prelude.{ℕ, zero, suc, ◌+◌, List, [], ◌∷◌, ◌≡◌, refl}
use Rattle.std.specs.Coded.{Coded, code_by, coded_list, coded_ℕ}
use Rattle.std.proofs.Common.{ap}

-- what contracts see of a place
pub data Seen : Type 0 where
  Mem : (mount ino : ℕ) → Seen
  Null : (mount : ℕ) (lower : Seen) → Seen
  UnionUp : (mount ino : ℕ) → Seen
  UnionLow : (mount dir : ℕ) (name : List ℕ) (lower : Seen) → Seen

-- the number in the outermost variant
abbrev pub mount_of : Seen → ℕ
mount_of (Mem m i) = m
mount_of (Null m p) = m
mount_of (UnionUp m i) = m
mount_of (UnionLow m u n p) = m

-- the place with its outer `Null` variants taken off
abbrev pub bare : Seen → Seen
bare (Mem m i) = Mem m i
bare (Null m p) = bare p
bare (UnionUp m i) = UnionUp m i
bare (UnionLow m u n p) = UnionLow m u n p

-- how many places stand under it
abbrev pub nesting : Seen → ℕ
nesting (Mem m i) = 0
nesting (Null m p) = nesting p + 1
nesting (UnionUp m i) = 0
nesting (UnionLow m u n p) = nesting p + 1

-- as lists of numbers, one for each variant, the outermost first
abbrev pub written : Seen → List (List ℕ)
written (Mem m i) = (0 ∷ m ∷ i ∷ []) ∷ []
written (Null m p) = (1 ∷ m ∷ []) ∷ written p
written (UnionUp m i) = (2 ∷ m ∷ i ∷ []) ∷ []
written (UnionLow m u n p) = (3 ∷ m ∷ u ∷ n) ∷ written p

-- the place that a list of numbers writes, over the place of the lists behind it
abbrev pub read_one : List ℕ → Seen → Seen
read_one (zero ∷ m ∷ i ∷ _) p = Mem m i
read_one (suc zero ∷ m ∷ _) p = Null m p
read_one (suc (suc zero) ∷ m ∷ i ∷ _) p = UnionUp m i
read_one (suc (suc (suc _)) ∷ m ∷ u ∷ n) p = UnionLow m u n p
read_one _ p = p

-- the place that the lists write
abbrev pub read : List (List ℕ) → Seen
read [] = Mem 0 0
read (w ∷ ws) = read_one w (read ws)

-- what is written is read
pub read-written : (p : Seen) → read (written p) ≡ p
read-written (Mem m i) = refl
read-written (Null m p) = ap (Null m) (read-written p)
read-written (UnionUp m i) = refl
read-written (UnionLow m u n p) = ap (UnionLow m u n) (read-written p)

-- the code of a place
abbrev pub coded_seen : Coded Seen
coded_seen = code_by (List (List ℕ)) (coded_list (coded_list coded_ℕ)) written read read-written
