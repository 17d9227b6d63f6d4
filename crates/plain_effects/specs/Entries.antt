-- The entries of a map by their index, in the order of their keys.
use Rattle.std.specs.Prelude.{ℕ, zero, suc, List, [], ◌∷◌, Option, Some, None}
use Rattle.std.specs.FinMap.{FinMap, insert}
use Rattle.std.specs.declared.cmp.Ordering.{Ordering}

-- the key of the entry at an index
abbrev pub key_at : {K X : Type 0} → List (K × X) → ℕ → Option K
key_at [] i = None
key_at (e ∷ es) zero = Some e.0
key_at (e ∷ es) (suc i) = key_at es i

-- the entries with the value at an index changed
abbrev pub changed_at : {K X : Type 0} → ℕ → (X → X) → List (K × X) → List (K × X)
changed_at i f [] = []
changed_at zero f (e ∷ es) = (e.0, f e.1) ∷ es
changed_at (suc i) f (e ∷ es) = e ∷ changed_at i f es

-- a map with the value at a key, where it is there, changed
abbrev pub changed_key : {K X : Type 0} {R : K → K → Ordering} → (X → X) → FinMap R X → K → Option X → FinMap R X
changed_key f m k (Some v) = insert m k (f v)
changed_key f m k None = m
