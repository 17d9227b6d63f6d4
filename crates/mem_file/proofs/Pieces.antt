-- A piece of a list in the middle of a longer one.
use Rattle.std.proofs.Common.{◌≡◌, ℕ, ◌+◌, ◌≤◌, List, ◌++◌, length, take, drop, refl, ap, sym, ◌∙◌, arith, append_assoc, length-append}
use Rattle.std.proofs.lemmas.List.{take-append-le, drop-append-le, take-append-drop}
use Rattle.std.proofs.Math.Seq.{take-append-add, drop-append-add, take-append_seam}
use Rattle.std.proofs.lemmas.List.Edits as edits
use Rattle.std.proofs.Math.Seq as std
use Rattle.mem_file.specs.Paste.{paste}

-- what is read of the middle is read of the whole
pub read_middle : (f p a : List ℕ) (o m : ℕ) → o ≤ length p → take m (drop o p) ≡ take (length (take m (drop o p))) (drop (length f + o) (f ++ p ++ a))
read_middle f p a o m h =
    let whole : drop (length f + o) (f ++ p ++ a) ≡ drop o p ++ a = ap (drop (length f + o)) (append_assoc f p a) ∙ drop-append-add f (p ++ a) o ∙ drop-append-le o p a h in
    let split : drop o p ++ a ≡ take m (drop o p) ++ (drop m (drop o p) ++ a) = ap (λ x. x ++ a) (sym (take-append-drop m (drop o p))) ∙ append_assoc (take m (drop o p)) (drop m (drop o p)) a in
    sym (ap (take (length (take m (drop o p)))) (whole ∙ split) ∙ take-append_seam (take m (drop o p)) (drop m (drop o p) ++ a))

-- what is put into the middle is put into the whole
pub put_middle : (f p a b : List ℕ) (o : ℕ) → o + length b ≤ length p → f ++ paste p o b ++ a ≡ paste (f ++ p ++ a) (length f + o) b
put_middle f p a b o h =
    let front : take (length f + o) (f ++ p ++ a) ≡ f ++ take o p =
    ap (take (length f + o)) (append_assoc f p a) ∙ take-append-add f (p ++ a) o ∙ ap (λ x. f ++ x) (take-append-le o p a (omega arith)) in
    let back : drop (length f + o + length b) (f ++ p ++ a) ≡ drop (o + length b) p ++ a =
    ap (drop (length f + o + length b)) (append_assoc f p a)
    ∙ ap (λ n. drop n (f ++ (p ++ a))) (omega arith)
    ∙ drop-append-add f (p ++ a) (o + length b) ∙ drop-append-le (o + length b) p a h in
    rw (front, back) (simp append_assoc)

-- a piece is put, and then the one behind it
pub paste-paste : (d b e : List ℕ) (at : ℕ) → at ≤ length d → paste (paste d at b) (at + length b) e ≡ paste d at (b ++ e)
paste-paste d b e at h =
    std_paste (paste d at b) e (at + length b)
    ∙ ap (λ x. std.paste x (at + length b) e (length e)) (std_paste d b at)
    ∙ edits.paste-paste d at b e (length b) (length e) refl refl h
    ∙ ap (std.paste d at (b ++ e)) (sym (length-append b e))
    ∙ sym (std_paste d (b ++ e) at)
  where
    std_paste : (d b : List ℕ) (at : ℕ) → paste d at b ≡ std.paste d at b (length b)
    std_paste d b at = append_assoc (take at d) b (drop (at + length b) d) ∙ sym (edits.paste_all d at b (length b) refl)
