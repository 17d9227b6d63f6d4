-- Bytes with zeros behind them.
use Rattle.std.proofs.Common.{◌≡◌, ℕ, zero, suc, ◌+◌, ◌-◌, ◌<◌, ◌≤◌, List, [], ◌∷◌, ◌++◌, length, take, drop, replicate, refl, ap, sym, ◌∙◌, arith, append_assoc, length-append, length-take, length-drop}
use Rattle.std.specs.Prelude.{max}
use Rattle.std.proofs.lemmas.List.{take_all, drop_all, take_at, drop_at, take-replicate, drop-replicate, length-replicate, replicate-append-replicate}
use Rattle.mem_file.specs.Paste.{paste}
use Rattle.vfs_tree.specs.Bytes.{resize_bytes, write_bytes}

take-append : (n : ℕ) (xs ys : List ℕ) → take n (xs ++ ys) ≡ take n xs ++ take (n - length xs) ys
take-append n [] ys = rw (take_all {A = ℕ} n [] (omega arith)) (ap (λ m. take m ys) (omega arith))
take-append zero (x ∷ xs) ys = let e : 0 ≡ 0 - suc (length xs) = omega arith in ap (λ m. take m ys) e
take-append (suc n) (x ∷ xs) ys = ap (λ zs. x ∷ zs) (take-append n xs ys) ∙ ap (λ m. x ∷ (take n xs ++ take m ys)) (omega arith)

drop-append : (n : ℕ) (xs ys : List ℕ) → drop n (xs ++ ys) ≡ drop n xs ++ drop (n - length xs) ys
drop-append n [] ys = rw (drop_all {X = ℕ} n [] (omega arith)) (ap (λ m. drop m ys) (omega arith))
drop-append zero (x ∷ xs) ys = let e : 0 ≡ 0 - suc (length xs) = omega arith in ap (λ m. x ∷ (xs ++ drop m ys)) e
drop-append (suc n) (x ∷ xs) ys = drop-append n xs ys ∙ ap (λ m. drop n xs ++ drop m ys) (omega arith)

-- what begins with a list and goes on in zeros, at that list's length
pub front_filled : (pages front : List ℕ) (len k : ℕ) → pages ≡ front ++ replicate k 0 → length front ≡ len → take len pages ≡ front
front_filled pages front len k is long = ap (take len) is ∙ take_at front (replicate k 0) len long

pub rest_filled : (pages front : List ℕ) (len k : ℕ) → pages ≡ front ++ replicate k 0 → length front ≡ len → pages ≡ take len pages ++ replicate (length pages - len) 0
rest_filled pages front len k is long =
    let count : length pages - len ≡ k = omega (arith, ap length is, length-append front (replicate k 0), length-replicate {A = ℕ} k 0) in
    rw (front_filled pages front len k is long, count) is

-- a list with zeros behind it, at another length
pub resize_filled : (old : List ℕ) (z len : ℕ) → length old ≤ len → len ≤ length old + z → old ++ replicate z 0 ≡ resize_bytes old len ++ replicate (z - (len - length old)) 0
resize_filled old z len more fits =
    ap (λ x. x ++ replicate z 0) (sym (take_all len old more))
    ∙ ap (λ x. take len old ++ x) (ap (λ n. replicate n 0) (omega arith) ∙ sym (replicate-append-replicate (len - length old) (z - (len - length old)) 0))
    ∙ sym (append_assoc (take len old) (replicate (len - length old) 0) (replicate (z - (len - length old)) 0))

pub length-resize : (old : List ℕ) (len : ℕ) → length (resize_bytes old len) ≡ len
length-resize old len = omega (arith, length-append (take len old) (replicate (len - length old) 0), length-take len old, length-replicate {A = ℕ} (len - length old) 0)

-- what stands before a piece and behind it
front_of : (old : List ℕ) (z at : ℕ) → at ≤ length old + z → take at (old ++ replicate z 0) ≡ resize_bytes old at
front_of old z at fits =
    take-append at old (replicate z 0) ∙ ap (λ x. take at old ++ x) (take-replicate (at - length old) z 0 (omega arith))

behind : (old : List ℕ) (z end : ℕ) → drop end (old ++ replicate z 0) ≡ drop end old ++ replicate (z - (end - length old)) 0
behind old z end = drop-append end old (replicate z 0) ∙ ap (λ x. drop end old ++ x) (drop-replicate (end - length old) z 0)

-- a list with zeros behind it, cut off: what was cut is zeros
pub cut_filled : (old : List ℕ) (z len : ℕ) → len ≤ length old → paste (old ++ replicate z 0) len (replicate (length old - len) 0) ≡ resize_bytes old len ++ replicate (length old - len + z) 0
cut_filled old z len less =
    let k = length old - len in
    let end : length old ≡ len + length {A = ℕ} (replicate k 0) = omega (arith, length-replicate {A = ℕ} k 0) in
    rw (front_of old z len (omega arith), drop_at old (replicate z 0) (len + length {A = ℕ} (replicate k 0)) end)
    (append_assoc (resize_bytes old len) (replicate k 0) (replicate z 0) ∙ ap (λ x. resize_bytes old len ++ x) (replicate-append-replicate k z 0))

-- a list with zeros behind it, with a piece put into it
pub write_filled : (old bytes : List ℕ) (z at : ℕ) → at + length bytes ≤ length old + z
    → paste (old ++ replicate z 0) at bytes ≡ (resize_bytes old at ++ bytes ++ drop (at + length bytes) old) ++ replicate (z - (at + length bytes - length old)) 0
write_filled old bytes z at fits =
    rw (front_of old z at (omega arith), behind old z (at + length bytes))
    (sym (append_assoc (resize_bytes old at ++ bytes) (drop (at + length bytes) old) (replicate (z - (at + length bytes - length old)) 0)))

pub length-written : (old bytes : List ℕ) (at : ℕ) → length (resize_bytes old at ++ bytes ++ drop (at + length bytes) old) ≡ max (length old) (at + length bytes)
length-written old bytes at =
    omega (arith, length-append (resize_bytes old at ++ bytes) (drop (at + length bytes) old), length-append (resize_bytes old at) bytes, length-resize old at, length-drop (at + length bytes) old)

-- some bytes are put
pub write_some : (old bytes : List ℕ) (at : ℕ) → 0 < length bytes → write_bytes old at bytes ≡ resize_bytes old at ++ bytes ++ drop (at + length bytes) old
write_some old [] at some = absurd (omega arith)
write_some old (b ∷ bytes) at some = refl

-- zeros behind zeros
pub length_zeros_more : (now next : List ℕ) (n : ℕ) → next ≡ now ++ replicate n 0 → length next ≡ length now + n
length_zeros_more now next n is = omega (arith, ap length is, length-append now (replicate n 0), length-replicate {A = ℕ} n 0)

pub zeros_more : (old now next : List ℕ) (n : ℕ) → length old ≤ length now → now ≡ old ++ replicate (length now - length old) 0 → next ≡ now ++ replicate n 0
    → next ≡ old ++ replicate (length next - length old) 0
zeros_more old now next n more so_far is =
    let k = length now - length old in
    let count : k + n ≡ length next - length old = omega (arith, length_zeros_more now next n is) in
    is
    ∙ ap (λ x. x ++ replicate n 0) so_far
    ∙ append_assoc old (replicate k 0) (replicate n 0)
    ∙ ap (λ x. old ++ x) (replicate-append-replicate k n 0)
    ∙ ap (λ m. old ++ replicate m 0) count
