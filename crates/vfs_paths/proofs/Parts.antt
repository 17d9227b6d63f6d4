-- The parts of a path between slashes.
use Rattle.std.proofs.Common.{◌≡◌, ℕ, ◌==◌, Bool, true, false, not, cond, List, [], ◌∷◌, length, filter, nat_lt, refl, sym, ◌∙◌, arith}
use Rattle.std.specs.Prelude.{◌&&◌, ◌||◌}
use Rattle.std.specs.List.{list_any, list_all, slice_split, onto_first}
use Rattle.std.proofs.lemmas.Bool.Decides.{nat_tests}
use Rattle.std.proofs.lemmas.Map.Views.{any-filter_same}
use Rattle.vfs_tree.specs.Name.{has_no_slash_or_zero}
use Rattle.vfs_paths.specs.Parts.{is_part}

abbrev pub is_some_part : List ℕ → Bool
is_some_part part = nat_lt 0 (length part)

abbrev pub is_long : List ℕ → Bool
is_long part = nat_lt 255 (length part)

some_long : (part : List ℕ) → is_long part ≡ true → is_some_part part ≡ true
some_long part e = grind (arith, nat_tests)

-- a part without bytes isn't long
pub any_long : (parts : List (List ℕ)) → list_any is_long (filter is_some_part parts) ≡ list_any is_long parts
any_long parts = any-filter_same is_long is_some_part true some_long parts

-- ---- no part has a slash, or a zero byte where the whole has none

abbrev fine : ℕ → Bool
fine b = not (b == 47) && not (b == 0)

onto_fine : (x : ℕ) (parts : List (List ℕ)) → fine x ≡ true → list_all has_no_slash_or_zero parts ≡ true → list_all has_no_slash_or_zero (onto_first x parts) ≡ true
onto_fine x [] q h = rw q refl
onto_fine x (p ∷ ps) q h = rw q h

left_false : (a b : Bool) → (a || b) ≡ false → a ≡ false
left_false false b h = refl
left_false true b h = h

right_false : (a b : Bool) → (a || b) ≡ false → b ≡ false
right_false false b h = h
right_false true b h = cc

fine_by : (x : ℕ) → (x == 47) ≡ false → (x == 0) ≡ false → fine x ≡ true
fine_by x p q = rw (p, q) refl

cut_fine : (x : ℕ) (parts : List (List ℕ)) (a : Bool) → (x == 47) ≡ a → (x == 0) ≡ false → list_all has_no_slash_or_zero parts ≡ true
    → list_all has_no_slash_or_zero (cond a ([] ∷ parts) (onto_first x parts)) ≡ true
cut_fine x parts true p q h = h
cut_fine x parts false p q h = onto_fine x parts (fine_by x p q) h

pub parts_fine : (xs : List ℕ) → list_any (λ b. b == 0) xs ≡ false → list_all has_no_slash_or_zero (slice_split (λ b. b == 47) xs) ≡ true
parts_fine [] h = refl
parts_fine (x ∷ xs) h =
    cut_fine x (slice_split (λ b. b == 47) xs) (x == 47) refl (left_false (x == 0) _ h) (parts_fine xs (right_false (x == 0) _ h))

-- ---- none is too long

left_true : (a b : Bool) → (a && b) ≡ true → a ≡ true
left_true true b h = refl
left_true false b h = h

right_true : (a b : Bool) → (a && b) ≡ true → b ≡ true
right_true true b h = h
right_true false b h = cc

not_long : (part : List ℕ) → is_long part ≡ false → nat_lt (length part) 256 ≡ true
not_long part e = grind (arith, nat_tests)

pub short_parts : (parts : List (List ℕ)) → list_all has_no_slash_or_zero parts ≡ true → list_any is_long parts ≡ false → list_all is_part parts ≡ true
short_parts [] h g = refl
short_parts (p ∷ ps) h g =
    rw (not_long p (left_false (is_long p) _ g), left_true (has_no_slash_or_zero p) _ h)
    (short_parts ps (right_true (has_no_slash_or_zero p) _ h) (right_false (is_long p) _ g))

-- the parts of a path that is not too long and has no zero byte are lawful
pub lawful_parts : (bytes : List ℕ) → list_any (λ b. b == 0) bytes ≡ false
    → (nat_lt 1023 (length bytes) || list_any is_long (filter is_some_part (slice_split (λ b. b == 47) bytes))) ≡ false
    → list_all is_part (slice_split (λ b. b == 47) bytes) ≡ true
lawful_parts bytes h g =
    let parts = slice_split (λ b. b == 47) bytes in
    short_parts parts (parts_fine bytes h) (sym (any_long parts) ∙ right_false (nat_lt 1023 (length bytes)) _ g)
