-- What contracts see of a list of slots.
use Rattle.std.specs.Prelude.{ℕ, Bool, false, ◌||◌, ◌==◌, cond, List, [], ◌∷◌}

-- the slots in the list, from the front, and how many slots there are
pub record Queue : Type 0 where
  pub queue : List ℕ
  pub slots : ℕ

-- whether a slot is in the list
abbrev pub member : ℕ → List ℕ → Bool
member slot [] = false
member slot (first ∷ rest) = (slot == first) || member slot rest

-- the list without a slot
abbrev pub without : ℕ → List ℕ → List ℕ
without slot [] = []
without slot (first ∷ rest) = cond (slot == first) (without slot rest) (first ∷ without slot rest)
