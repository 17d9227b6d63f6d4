-- A ring of links through numbers below an end, and the end.
use Rattle.std.specs.Prelude.{ℕ, zero, suc, ◌≡◌, ◌<◌, ◌+◌, false, ◌==◌, cond, List, [], ◌∷◌, length, slice_index}
use Rattle.free_list.specs.Queue.{member}

-- the link of a number
abbrev pub at : List ℕ → ℕ → ℕ
at links i = slice_index links i

-- what the links lead to from `a` before the end, at most `most` numbers
abbrev pub chase : (ℕ → ℕ) → ℕ → ℕ → ℕ → List ℕ
chase next end zero a = []
chase next end (suc most) a = cond (next a == end) [] (next a ∷ chase next end most (next a))

-- what the links lead to from the end back to it
abbrev pub chased : List ℕ → ℕ → List ℕ
chased next end = chase (at next) end end end

-- the links lead from `a` along a list to the end, and back
abbrev pub Path : (ℕ → ℕ) → (ℕ → ℕ) → ℕ → List ℕ → ℕ → Type 0
Path next prev a [] end = (next a ≡ end) × (prev end ≡ a)
Path next prev a (x ∷ xs) end = (next a ≡ x) × (prev x ≡ a) × Path next prev x xs end

-- no number stands twice, and each is below `n`
abbrev pub Apart : ℕ → List ℕ → Type 0
Apart n [] = Unit {0}
Apart n (x ∷ xs) = (x < n) × (member x xs ≡ false) × Apart n xs

-- the links of the list and its end are a ring, and every other number is linked to itself
pub record IsRing (next : List ℕ) (prev : List ℕ) (end : ℕ) : Type 0 where
  pub next_len : length next ≡ end + 1
  pub prev_len : length prev ≡ end + 1
  pub path : Path (at next) (at prev) end (chased next end) end
  pub apart : Apart end (chased next end)
  pub loose : (s : ℕ) → s < end → member s (chased next end) ≡ false → at next s ≡ s

-- each of the first `n` numbers is linked to itself, and there are no others
pub record AreLoopedTo (links : List ℕ) (n : ℕ) : Type 0 where
  pub len : length links ≡ n
  pub looped : (i : ℕ) → i < n → at links i ≡ i

-- each number up to the end is linked to itself
abbrev pub AreLooped : List ℕ → ℕ → Type 0
AreLooped links end = AreLoopedTo links (end + 1)
