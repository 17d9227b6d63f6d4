-- A piece of a list replaced.
use Rattle.std.specs.Prelude.{ℕ, ◌+◌, List, ◌++◌, length, take, drop, All, ◌≡◌}

-- the bytes with those from an offset on replaced by others
abbrev pub paste : List ℕ → ℕ → List ℕ → List ℕ
paste old offset bytes = take offset old ++ bytes ++ drop (offset + length bytes) old

-- each list has that length
abbrev pub AreOf : ℕ → List (List ℕ) → Type 0
AreOf size pages = All (λ page. length page ≡ size) pages
