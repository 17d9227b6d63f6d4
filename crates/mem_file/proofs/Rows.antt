-- Lists of one length, joined.
use Rattle.std.proofs.Common.{◌≡◌, ℕ, suc, ◌+◌, ◌*◌, ◌/◌, ◌%◌, ◌≤◌, ◌<◌, List, [], ◌∷◌, ◌++◌, length, get_or, set, take, drop, ap, sym, ◌∙◌, arith, append_assoc, append-nil, length-append}
use Rattle.std.proofs.Math.Nat.{suc-mul, mod-lt, div-lt_iff_lt-mul}
use Rattle.std.proofs.lemmas.Nat.{div-add-mod'}
use Rattle.std.proofs.lemmas.List.{set_split, set-get_or, length-take-le, take_at, take-append-drop}
use Rattle.std.proofs.lemmas.List.Elements.{All-head, All-tail, All-take, All-get_or}
use Rattle.std.proofs.lemmas.List.Folds.{concat-append}
use Rattle.std.specs.List.{concat}
use Rattle.mem_file.specs.Paste.{AreOf, paste}
use Rattle.mem_file.proofs.Pieces.{read_middle, put_middle}

-- as many bytes as all have together
pub length-concat : (s : ℕ) (ps : List (List ℕ)) → AreOf s ps → length (concat ps) ≡ length ps * s
length-concat s [] h = omega arith
length-concat s (p ∷ ps) h =
    length-append p (concat ps)
    ∙ ap (λ n. n + length (concat ps)) (All-head (λ x. length x ≡ s) p ps h)
    ∙ ap (λ n. s + n) (length-concat s ps (All-tail (λ x. length x ≡ s) p ps h))
    ∙ sym (suc-mul (length ps) s ∙ (omega arith))

-- before the i-th stand i times as many bytes
pub length-front : (s : ℕ) (ps : List (List ℕ)) (i : ℕ) → AreOf s ps → i ≤ length ps → length (concat (take i ps)) ≡ i * s
length-front s ps i h le = length-concat s (take i ps) (All-take (λ x. length x ≡ s) i ps h) ∙ ap (λ n. n * s) (length-take-le i ps le)

-- the first i rows are the first bytes
pub concat-take : (s : ℕ) (ps : List (List ℕ)) (i : ℕ) → AreOf s ps → i ≤ length ps → concat (take i ps) ≡ take (i * s) (concat ps)
concat-take s ps i h le =
    let split : concat ps ≡ concat (take i ps) ++ concat (drop i ps) = ap concat (sym (take-append-drop i ps)) ∙ concat-append (take i ps) (drop i ps) in
    sym (ap (take (i * s)) split ∙ take_at (concat (take i ps)) (concat (drop i ps)) (i * s) (length-front s ps i h le))

-- the rows with the i-th replaced
pub concat-set : (ps : List (List ℕ)) (i : ℕ) (q : List ℕ) → i < length ps → concat (set ps i q) ≡ concat (take i ps) ++ (q ++ concat (drop (suc i) ps))
concat-set ps i q h = ap concat (set_split ps i q h) ∙ concat-append (take i ps) (q ∷ drop (suc i) ps)

-- the rows, split at the i-th
pub concat_at : (ps : List (List ℕ)) (i : ℕ) (d : List ℕ) → i < length ps → concat ps ≡ concat (take i ps) ++ (get_or ps i d ++ concat (drop (suc i) ps))
concat_at ps i d h = ap concat (sym (set-get_or ps i d)) ∙ concat-set ps i (get_or ps i d) h

module _ (s : ℕ) (ps : List (List ℕ)) (at : ℕ) (pos : 0 < s) (even : AreOf s ps) (within : at < length (concat ps)) where
  -- the place of the row with a byte
  pub row_below : at / s < length ps
  row_below = (div-lt_iff_lt-mul {k = s} {x = at} {y = length ps} pos).1 (omega (arith, length-concat s ps even))

  -- each row has that length
  pub length-row : (p : List ℕ) → p ≡ get_or ps (at / s) p → length p ≡ s
  length-row p is = ap length is ∙ All-get_or (λ x. length x ≡ s) ps (at / s) p row_below even

  -- the rows before that one, and the place within it
  position : length (concat (take (at / s) ps)) + at % s ≡ at
  position = ap (λ n. n + at % s) (length-front s ps (at / s) even (omega (arith, row_below))) ∙ div-add-mod' at s

  -- what is read of a row is read of all
  pub read_row : (p : List ℕ) (m : ℕ) → p ≡ get_or ps (at / s) p → take m (drop (at % s) p) ≡ take (length (take m (drop (at % s) p))) (drop at (concat ps))
  read_row p m is =
      let f = concat (take (at / s) ps) in
      let a = concat (drop (suc (at / s)) ps) in
      let le : at % s ≤ length p = omega (arith, length-row p is, mod-lt at pos) in
      let whole : concat ps ≡ f ++ (p ++ a) = concat_at ps (at / s) p row_below ∙ ap (λ x. f ++ (x ++ a)) (sym is) in
      read_middle f p a (at % s) m le
      ∙ ap (λ n. take (length (take m (drop (at % s) p))) (drop n (f ++ p ++ a))) position
      ∙ ap (λ x. take (length (take m (drop (at % s) p))) (drop at x)) (append_assoc f p a ∙ sym whole)

  -- what is put into a row is put into all
  pub put_row : (p b : List ℕ) → p ≡ get_or ps (at / s) p → at % s + length b ≤ s → concat (set ps (at / s) (paste p (at % s) b)) ≡ paste (concat ps) at b
  put_row p b is fits =
      let f = concat (take (at / s) ps) in
      let a = concat (drop (suc (at / s)) ps) in
      let le : at % s + length b ≤ length p = omega (arith, length-row p is) in
      let whole : concat ps ≡ f ++ (p ++ a) = concat_at ps (at / s) p row_below ∙ ap (λ x. f ++ (x ++ a)) (sym is) in
      concat-set ps (at / s) (paste p (at % s) b) row_below
      ∙ sym (append_assoc f (paste p (at % s) b) a)
      ∙ put_middle f p a b (at % s) le
      ∙ ap (λ n. paste (f ++ p ++ a) n b) position
      ∙ ap (λ x. paste x at b) (append_assoc f p a ∙ sym whole)

-- one more row
pub concat-push : (ps : List (List ℕ)) (p : List ℕ) → concat (ps ++ p ∷ []) ≡ concat ps ++ p
concat-push ps p = concat-append ps (p ∷ []) ∙ ap (λ x. concat ps ++ x) (append-nil p)
