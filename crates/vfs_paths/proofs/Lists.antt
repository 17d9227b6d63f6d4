-- Lists from their ends.
use Rattle.std.proofs.Common.{◌≡◌, List, [], ◌∷◌, ◌++◌, map, reverse, ap, ◌∙◌}
use Rattle.std.proofs.lemmas.List.{reverse-append, map-append}

-- the last of a list is the first of its reverse
pub last_first : {A B : Type 0} (v : A → B) (xs : List A) (x : A) → reverse (map v (xs ++ (x ∷ []))) ≡ v x ∷ reverse (map v xs)
last_first v xs x = ap reverse (map-append v xs (x ∷ [])) ∙ reverse-append (map v xs) (v x ∷ [])
