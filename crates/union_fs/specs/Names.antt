-- The front of a list in order, up to some element.
use Rattle.std.specs.Prelude.{Bool, false, cond, List, [], ◌∷◌}
use Rattle.std.specs.declared.cmp.Ordering.{Ordering}
use Rattle.std.specs.Ordering.{is_lt, is_eq}

module _ {K : Type 0} (R : K → K → Ordering) where
  -- the elements at the front that are below `n`
  abbrev pub front_below : K → List K → List K
  front_below n [] = []
  front_below n (x ∷ xs) = cond (is_lt (R x n)) (x ∷ front_below n xs) []

  -- the elements after those
  abbrev pub rest_from : K → List K → List K
  rest_from n [] = []
  rest_from n (x ∷ xs) = cond (is_lt (R x n)) (rest_from n xs) (x ∷ xs)

  -- whether the first element is `n`
  abbrev pub begins_with : K → List K → Bool
  begins_with n [] = false
  begins_with n (x ∷ xs) = is_eq (R x n)
