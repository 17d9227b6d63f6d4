-- Bytes that are lengthened by zeros and get a piece.
use Rattle.std.proofs.Common.{◌≡◌, ℕ, zero, suc, ◌+◌, ◌-◌, ◌<◌, ◌≤◌, List, [], ◌∷◌, ◌++◌, length, take, drop, replicate, refl, ap, sym, ◌∙◌, Bool, false, arith}
use Rattle.std.proofs.lemmas.List.{take_all, drop_all, take-replicate, drop-replicate, append-nil}
use Rattle.std.specs.Prelude.{◌==◌}
use Rattle.vfs_tree.specs.Bytes.{resize_bytes, write_bytes}

take-append : (n : ℕ) (xs ys : List ℕ) → take n (xs ++ ys) ≡ take n xs ++ take (n - length xs) ys
take-append n [] ys = rw (take_all {A = ℕ} n [] (omega arith)) (ap (λ m. take m ys) (omega arith))
take-append zero (x ∷ xs) ys = let e : 0 ≡ 0 - suc (length xs) = omega arith in ap (λ m. take m ys) e
take-append (suc n) (x ∷ xs) ys = ap (λ zs. x ∷ zs) (take-append n xs ys) ∙ ap (λ m. x ∷ (take n xs ++ take m ys)) (omega arith)

drop-append : (n : ℕ) (xs ys : List ℕ) → drop n (xs ++ ys) ≡ drop n xs ++ drop (n - length xs) ys
drop-append n [] ys = rw (drop_all {X = ℕ} n [] (omega arith)) (ap (λ m. drop m ys) (omega arith))
drop-append zero (x ∷ xs) ys = let e : 0 ≡ 0 - suc (length xs) = omega arith in ap (λ m. x ∷ (xs ++ drop m ys)) e
drop-append (suc n) (x ∷ xs) ys = drop-append n xs ys ∙ ap (λ m. drop n xs ++ drop m ys) (omega arith)

-- what stands before a piece and behind it
front_of : (old : List ℕ) (z at : ℕ) → at ≤ length old + z → take at (old ++ replicate z 0) ≡ resize_bytes old at
front_of old z at fits =
    take-append at old (replicate z 0) ∙ ap (λ x. take at old ++ x) (take-replicate (at - length old) z 0 (omega arith))

behind : (old : List ℕ) (z end : ℕ) → z ≡ end - length old → drop end (old ++ replicate z 0) ≡ drop end old
behind old z end is =
    let none : z - (end - length old) ≡ 0 = omega arith in
    drop-append end old (replicate z 0) ∙ ap (λ x. drop end old ++ x) (drop-replicate (end - length old) z 0 ∙ ap (λ n. replicate n 0) none) ∙ append-nil (drop end old)

write_some : (old piece : List ℕ) (at : ℕ) → 0 < length piece → write_bytes old at piece ≡ resize_bytes old at ++ piece ++ drop (at + length piece) old
write_some old [] at some = absurd (omega arith)
write_some old (b ∷ piece) at some = refl

some_bytes : (xs : List ℕ) → (length xs == 0) ≡ false → 0 < length xs
some_bytes [] e = cc
some_bytes (x ∷ xs) e = omega arith

-- a piece is put into bytes that were lengthened to its end
pub put_grown : (old piece grown : List ℕ) (at : ℕ) → (length piece == 0) ≡ false → grown ≡ old ++ replicate (at + length piece - length old) 0
    → take at grown ++ piece ++ drop (at + length piece) grown ≡ write_bytes old at piece
put_grown old piece grown at some is =
    let z = at + length piece - length old in
    let here : 0 < length piece = some_bytes piece some in
    ap (λ x. take at x ++ piece ++ drop (at + length piece) x) is
    ∙ (λ i. (front_of old z at (omega arith) i) ++ piece ++ (behind old z (at + length piece) refl i))
    ∙ sym (write_some old piece at (some_bytes piece some))
