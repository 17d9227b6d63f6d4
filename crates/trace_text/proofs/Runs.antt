-- The runs of a file, while its bytes are gone over.
use Rattle.std.proofs.Common.{◌≡◌, ℕ, ◌+◌, ◌-◌, ◌<◌, ◌≤◌, true, false, ◌==◌, cond, List, [], ◌∷◌, ◌++◌, length, take, drop, get_or, refl, sym, ap, ◌∙◌, arith, append_assoc, add-one, drop-cons, eq-eqb, inl, inr}
use Rattle.std.specs.List.{slice_split, slice_range, onto_first}
use Rattle.std.proofs.lemmas.List.{take_more, get_or-drop, append-nil, drop_all}
use Rattle.std.proofs.lemmas.List.Splits.{slice_split-cons_yes, slice_split-cons_no}
use Rattle.std.proofs.lemmas.Grind.{common_steps}
use Rattle.std.proofs.lemmas.Bool.Decides.{eqb_tells}
use Rattle.trace_text.specs.Node.{run_text, parts_text, runs_text}

-- the parts between zero bytes
abbrev pub parts_of : List ℕ → List (List ℕ)
parts_of bytes = slice_split (λ b. b == 0) bytes

-- the parts, the first one behind these bytes
abbrev pub behind : List ℕ → List (List ℕ) → List (List ℕ)
behind front [] = front ∷ []
behind front (part ∷ parts) = (front ++ part) ∷ parts

-- what is left to write at byte i, where the part that byte i stands in begins at `start`
unfoldable pub rest_text : List ℕ → ℕ → ℕ → List ℕ
rest_text bytes start i = parts_text start (behind (slice_range bytes start i) (parts_of (drop i bytes)))

behind-onto_first : (front : List ℕ) (b : ℕ) (parts : List (List ℕ)) → behind front (onto_first b parts) ≡ behind (front ++ b ∷ []) parts
behind-onto_first front b [] = refl
behind-onto_first front b (part ∷ parts) = ap (λ (p : List ℕ). p ∷ parts) (sym (append_assoc front (b ∷ []) part))

behind_nothing-onto_first : (b : ℕ) (parts : List (List ℕ)) → behind [] (onto_first b parts) ≡ onto_first b parts
behind_nothing-onto_first b [] = refl
behind_nothing-onto_first b (part ∷ parts) = refl

behind_nothing : (bytes : List ℕ) → behind [] (parts_of bytes) ≡ parts_of bytes
behind_nothing [] = refl
behind_nothing (b ∷ bs) = elim (b == 0) as (λ zero. let parts = cond zero ([] ∷ parts_of bs) (onto_first b (parts_of bs)) in behind [] parts ≡ parts) [
  | true ↦ refl
  | false ↦ behind_nothing-onto_first b (parts_of bs)
]

not_zero : (b : ℕ) → (b ≡ 0 → ⊥) → (b == 0) ≡ false
not_zero b other = elim (eqb_tells b 0) [ inl same ↦ absurd (other same.1) | inr differ ↦ differ.0 ]

-- one byte more of the open part
range_more : (bytes : List ℕ) (start i : ℕ) → start ≤ i → i < length bytes → slice_range bytes start (i + 1) ≡ slice_range bytes start i ++ get_or bytes i 0 ∷ []
range_more bytes start i le lt =
    let shorter : i - start < length (drop start bytes) = grind (arith, common_steps) in
    let next : i + 1 - start ≡ i - start + 1 = omega arith in
    let here : start + (i - start) ≡ i = omega arith in
    ap (λ n. take n (drop start bytes)) next ∙ take_more (drop start bytes) (i - start) 0 shorter
    ∙ ap (λ b. take (i - start) (drop start bytes) ++ b ∷ []) (get_or-drop start bytes (i - start) 0 ∙ ap (λ n. get_or bytes n 0) here)

length_range : (bytes : List ℕ) (start i : ℕ) → start ≤ i → i < length bytes → start + (length (slice_range bytes start i) + 1) ≡ i + 1
length_range bytes start i le lt = grind (arith, common_steps)

split_at : (bytes : List ℕ) (i : ℕ) → i < length bytes → drop i bytes ≡ get_or bytes i 0 ∷ drop (i + 1) bytes
split_at bytes i lt = rw add-one (drop-cons bytes i 0 lt)

-- a byte other than zero goes on with the part
pub rest_text-other : (bytes : List ℕ) (start i : ℕ) → start ≤ i → i < length bytes → (get_or bytes i 0 ≡ 0 → ⊥) → rest_text bytes start i ≡ rest_text bytes start (i + 1)
unfolding rest_text
rest_text-other bytes start i le lt other =
    let b = get_or bytes i 0 in
    let front = slice_range bytes start i in
    let parts : parts_of (drop i bytes) ≡ onto_first b (parts_of (drop (i + 1) bytes)) =
    ap parts_of (split_at bytes i lt) ∙ slice_split-cons_no (λ b. b == 0) b (drop (i + 1) bytes) (not_zero b other) in
    ap (λ ps. parts_text start (behind front ps)) parts ∙ ap (parts_text start) (behind-onto_first front b (parts_of (drop (i + 1) bytes)))
    ∙ ap (λ xs. parts_text start (behind xs (parts_of (drop (i + 1) bytes)))) (sym (range_more bytes start i le lt))

-- a zero byte ends the part
pub rest_text-zero : (bytes : List ℕ) (start i : ℕ) → start ≤ i → i < length bytes → get_or bytes i 0 ≡ 0 → rest_text bytes start i ≡ run_text start (slice_range bytes start i) ++ rest_text bytes (i + 1) (i + 1)
unfolding rest_text
rest_text-zero bytes start i le lt zero =
    let front = slice_range bytes start i in
    let after = parts_of (drop (i + 1) bytes) in
    let parts : parts_of (drop i bytes) ≡ [] ∷ after =
    ap parts_of (split_at bytes i lt) ∙ slice_split-cons_yes (λ b. b == 0) (get_or bytes i 0) (drop (i + 1) bytes) (eq-eqb (get_or bytes i 0) 0 zero) in
    let empty : slice_range bytes (i + 1) (i + 1) ≡ [] = grind (arith, common_steps) in
    ap (λ ps. parts_text start (behind front ps)) parts ∙ ap (λ xs. parts_text start (xs ∷ after)) (append-nil front)
    ∙ ap (λ n. run_text start front ++ parts_text n after) (length_range bytes start i le lt)
    ∙ ap (λ ps. run_text start front ++ parts_text (i + 1) ps) (sym (ap (λ xs. behind xs after) empty ∙ behind_nothing (drop (i + 1) bytes)))

-- at the end the last part is left
pub rest_text-end : (bytes : List ℕ) (start i : ℕ) → i ≡ length bytes → rest_text bytes start i ≡ run_text start (slice_range bytes start (length bytes))
unfolding rest_text
rest_text-end bytes start i e =
    let nothing : drop i bytes ≡ [] = drop_all i bytes (omega arith) in
    ap (λ xs. parts_text start (behind (slice_range bytes start i) (parts_of xs))) nothing
    ∙ ap (λ xs. parts_text start (xs ∷ [])) (append-nil (slice_range bytes start i))
    ∙ append-nil (run_text start (slice_range bytes start i)) ∙ ap (λ n. run_text start (slice_range bytes start n)) e

-- at the start all is left
pub rest_text-start : (bytes : List ℕ) → rest_text bytes 0 0 ≡ runs_text bytes
unfolding rest_text
rest_text-start bytes = ap (parts_text 0) (behind_nothing bytes)

-- a part of what is left is written
pub writes_part : (out new whole left part rest : List ℕ) → out ++ left ≡ whole → left ≡ part ++ rest → new ≡ out ++ part → new ++ rest ≡ whole
writes_part out new whole left part rest so_far splits writes =
    ap (λ t. t ++ rest) writes ∙ append_assoc out part rest ∙ ap (λ t. out ++ t) (sym splits) ∙ so_far
