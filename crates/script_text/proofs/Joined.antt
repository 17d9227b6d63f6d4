-- Parts that lack a byte, joined by it, are cut apart again.
use Rattle.std.proofs.Common.{◌≡◌, ℕ, ◌<◌, Bool, true, false, not, ◌==◌, nat_lt, List, [], ◌∷◌, ◌++◌, refl, sym, ap, ◌∙◌, arith}
use Rattle.std.specs.List.{slice_split, onto_first, join_with_byte, flat_map, list_all, AllByRecursion}
use Rattle.std.proofs.lemmas.List.{append-nil}
use Rattle.std.proofs.lemmas.List.Splits.{slice_split-cons_yes, slice_split-cons_no}
use Rattle.std.proofs.lemmas.List.Folds.{list_all-append}
use Rattle.std.proofs.lemmas.Bool.{and_parts, and_from, not-true, not_from_false, eq-eqb, ne_eqb, ltb-true}

-- the byte doesn't stand in the list
abbrev pub lacks : ℕ → List ℕ → Bool
lacks c xs = list_all (λ b. not (b == c)) xs

abbrev pub EachLacks : ℕ → List (List ℕ) → Type 0
EachLacks c parts = AllByRecursion (λ xs. lacks c xs ≡ true) parts

cut_front : (c : ℕ) (xs ys : List ℕ) → lacks c xs ≡ true → slice_split (λ b. b == c) (xs ++ c ∷ ys) ≡ xs ∷ slice_split (λ b. b == c) ys
cut_front c [] ys h = slice_split-cons_yes (λ b. b == c) c ys (eq-eqb c c refl)
cut_front c (x ∷ xs) ys h =
    let p = and_parts (not (x == c)) (lacks c xs) h in
    slice_split-cons_no (λ b. b == c) x (xs ++ c ∷ ys) (not-true (x == c) p.0) ∙ ap (onto_first x) (cut_front c xs ys p.1)

cut_last : (c : ℕ) (xs : List ℕ) → lacks c xs ≡ true → slice_split (λ b. b == c) xs ≡ xs ∷ []
cut_last c [] h = refl
cut_last c (x ∷ xs) h =
    let p = and_parts (not (x == c)) (lacks c xs) h in
    slice_split-cons_no (λ b. b == c) x xs (not-true (x == c) p.0) ∙ ap (onto_first x) (cut_last c xs p.1)

pub cut_joined : (c : ℕ) (part : List ℕ) (parts : List (List ℕ)) → EachLacks c (part ∷ parts) → slice_split (λ b. b == c) (join_with_byte c (part ∷ parts)) ≡ part ∷ parts
cut_joined c part [] h = cut_last c part h.0
cut_joined c part (next ∷ parts) h = cut_front c part (join_with_byte c (next ∷ parts)) h.0 ∙ ap (λ (t : List (List ℕ)). part ∷ t) (cut_joined c next parts h.1)

lacks-append : (c : ℕ) (xs ys : List ℕ) → lacks c xs ≡ true → lacks c ys ≡ true → lacks c (xs ++ ys) ≡ true
lacks-append c xs ys p q = list_all-append (λ b. not (b == c)) xs ys ∙ and_from (lacks c xs) (lacks c ys) p q

pub joined_lacks : (c d : ℕ) (parts : List (List ℕ)) → (d == c) ≡ false → EachLacks c parts → lacks c (join_with_byte d parts) ≡ true
joined_lacks c d [] other h = refl
joined_lacks c d (x ∷ []) other h = h.0
joined_lacks c d (x ∷ y ∷ parts) other h =
    lacks-append c x (d ∷ join_with_byte d (y ∷ parts)) h.0 (and_from (not (d == c)) (lacks c (join_with_byte d (y ∷ parts))) (not_from_false (d == c) other) (joined_lacks c d (y ∷ parts) other h.1))

-- bytes above the space are neither a space nor a line end
abbrev pub is_above : List ℕ → Bool
is_above xs = list_all (λ b. nat_lt 32 b) xs

pub above_lacks : (c : ℕ) (xs : List ℕ) → c < 33 → is_above xs ≡ true → lacks c xs ≡ true
above_lacks c [] low h = refl
above_lacks c (x ∷ xs) low h =
    let p = and_parts (nat_lt 32 x) (is_above xs) h in
    let high : 32 < x = ltb-true 32 x p.0 in
    and_from (not (x == c)) (lacks c xs) (not_from_false (x == c) (ne_eqb x c (λ e. absurd (omega arith)))) (above_lacks c xs low p.1)

-- parts that are joined are the first, and then each with the byte before it
pub joined_first : (c : ℕ) (part : List ℕ) (parts : List (List ℕ)) → join_with_byte c (part ∷ parts) ≡ part ++ flat_map (λ (x : List ℕ). c ∷ x) parts
joined_first c part [] = sym (append-nil part)
joined_first c part (next ∷ parts) = ap (λ (t : List ℕ). part ++ c ∷ t) (joined_first c next parts)
