-- Call lines that are read are spelled so, those that fit are read again, and where none are read, the first bad line
-- is told.
use Rattle.std.proofs.Common.{◌≡◌, ℕ, ◌+◌, ◌-◌, ◌<◌, ◌≤◌, Bool, true, false, ◌==◌, cond, ◌⊎◌, inl, inr, zero, suc, List, [], ◌∷◌, length, codes, Option, Some, None, Result, Ok, Err, refl, sym, ap, ◌∙◌, arith}
use Rattle.std.specs.List.{AllByRecursion}
use Rattle.std.specs.Str.{bytes_eq}
use Rattle.std.proofs.lemmas.Bool.{eqb-true, ne_eqb}
use Rattle.call_model.specs.declared.call.Line.{Line}
use Rattle.script_text.specs.Line.{line_text}
use Rattle.script_text.specs.Fits.{FitsLine}
use Rattle.script_text.specs.Script.{call_lines}
use Rattle.script_text.specs.BadLine.{Place, Later, Past, IsLater, IsBadFrom}
use Rattle.script_text.specs.ReadCall.{line_at}
use Rattle.script_text.specs.ReadScript.{is_nil, is_rest, call_line, step_at, with_step, lines_at}
use Rattle.script_text.proofs.Joined.{EachLacks}
use Rattle.script_text.proofs.Values.{same_bytes, bytes_are}
use Rattle.script_text.proofs.LineLaws.{line_found, line_again, line_lacks, line_is_no_end}

-- which way a test went
pub cond_is : {A : Type 0} (b : Bool) (x y z : A) → cond b x y ≡ z → ((b ≡ true) × (x ≡ z)) ⊎ ((b ≡ false) × (y ≡ z))
cond_is true x y z e = inl (refl, e)
cond_is false x y z e = inr (refl, e)

-- ---- a step

call_line_some : (number : ℕ) (o : Option Line) (line : Line) → call_line number o ≡ Ok (Some line) → o ≡ Some line
call_line_some number (Some other) line e = cc
call_line_some number None line e = absurd cc

call_line_none : (number : ℕ) (o : Option Line) → call_line number o ≡ Ok None → ⊥
call_line_none number (Some other) e = cc
call_line_none number None e = cc

call_line_err : (number n : ℕ) (o : Option Line) → call_line number o ≡ Err n → (n ≡ number) × (o ≡ None)
call_line_err number n (Some other) e = absurd cc
call_line_err number n None e = (cc, refl)

pub step_some : (callers : ℕ) (full : Bool) (number : ℕ) (text : List ℕ) (rest : List (List ℕ)) (line : Line) → step_at callers full number text rest ≡ Ok (Some line) → (full ≡ false) × (line_at callers text ≡ Some line)
unfolding step_at
step_some callers full number text rest line e =
    elim (cond_is (is_nil rest) (Err number) (cond (bytes_eq text (codes "end")) (cond (is_rest rest) (Ok None) (Err (number + 1))) (cond full (Err number) (call_line number (line_at callers text)))) (Ok (Some line)) e) [
      | inl p ↦ absurd (cc p.1)
      | inr p ↦ elim (cond_is (bytes_eq text (codes "end")) (cond (is_rest rest) (Ok None) (Err (number + 1))) (cond full (Err number) (call_line number (line_at callers text))) (Ok (Some line)) p.1) [
        | inl q ↦ elim (cond_is (is_rest rest) (Ok None) (Err (number + 1)) (Ok (Some line)) q.1) [ inl r ↦ absurd (cc r.1) | inr r ↦ absurd (cc r.1) ]
        | inr q ↦ elim (cond_is full (Err number) (call_line number (line_at callers text)) (Ok (Some line)) q.1) [
          | inl r ↦ absurd (cc r.1)
          | inr r ↦ (r.0, call_line_some number (line_at callers text) line r.1)
        ]
      ]
    ]

rest_is : (rest : List (List ℕ)) → is_rest rest ≡ true → rest ≡ [] ∷ []
rest_is [] e = absurd cc
rest_is ([] ∷ []) e = refl
rest_is ([] ∷ y ∷ ys) e = absurd cc
rest_is ((x ∷ xs) ∷ ys) e = absurd cc

step_none : (callers : ℕ) (full : Bool) (number : ℕ) (text : List ℕ) (rest : List (List ℕ)) → step_at callers full number text rest ≡ Ok None → (text ≡ codes "end") × (rest ≡ [] ∷ [])
unfolding step_at
step_none callers full number text rest e =
    elim (cond_is (is_nil rest) (Err number) (cond (bytes_eq text (codes "end")) (cond (is_rest rest) (Ok None) (Err (number + 1))) (cond full (Err number) (call_line number (line_at callers text)))) (Ok None) e) [
      | inl p ↦ absurd (cc p.1)
      | inr p ↦ elim (cond_is (bytes_eq text (codes "end")) (cond (is_rest rest) (Ok None) (Err (number + 1))) (cond full (Err number) (call_line number (line_at callers text))) (Ok None) p.1) [
        | inl q ↦ elim (cond_is (is_rest rest) (Ok None) (Err (number + 1)) (Ok None) q.1) [ inl r ↦ (bytes_are text (codes "end") q.0, rest_is rest r.0) | inr r ↦ absurd (cc r.1) ]
        | inr q ↦ elim (cond_is full (Err number) (call_line number (line_at callers text)) (Ok None) q.1) [
          | inl r ↦ absurd (cc r.1)
          | inr r ↦ absurd (call_line_none number (line_at callers text) r.1)
        ]
      ]
    ]

-- ---- a bad step

past_bad : (number n : ℕ) (next : List ℕ) (parts : List (List ℕ)) → is_rest (next ∷ parts) ≡ false → n ≡ number → IsBadFrom Past number (next ∷ parts) n
past_bad number n [] [] e q = absurd cc
past_bad number n (c ∷ cs) [] e q = (q, λ (p : (Past ≡ Past) × (c ∷ cs ≡ [])). cc p.1)
past_bad number n next (part ∷ parts) e q = inl (q, λ after h. h)

not_end : (text : List ℕ) → bytes_eq text (codes "end") ≡ false → text ≡ codes "end" → ⊥
not_end text other e = let same : bytes_eq text (codes "end") ≡ true = rw e (same_bytes (codes "end")) in cc

full_bad : (callers left : ℕ) (text : List ℕ) → bytes_eq text (codes "end") ≡ false → (left == 0) ≡ true → (after : Place) → IsLater callers left text after → ⊥
full_bad callers left text other full after (inl end) = not_end text other end.0
full_bad callers left text other full after (inr call) = let none : left ≡ 0 = eqb-true left 0 full in absurd (omega (arith, call.0))

call_bad : (callers left : ℕ) (text : List ℕ) → callers ≤ 16 → bytes_eq text (codes "end") ≡ false → line_at callers text ≡ None → (after : Place) → IsLater callers left text after → ⊥
call_bad callers left text few other none after (inl end) = not_end text other end.0
call_bad callers left text few other none after (inr call) =
    let line = call.1.0 in
    let read : line_at callers text ≡ Some line = ap (line_at callers) call.1.2 ∙ line_again callers line few call.1.1 in
    cc

step_bad : (callers left number : ℕ) (text next : List ℕ) (parts : List (List ℕ)) (n : ℕ) → callers ≤ 16 → step_at callers (left == 0) number text (next ∷ parts) ≡ Err n → IsBadFrom (Later callers left) number (text ∷ next ∷ parts) n
unfolding step_at
step_bad callers left number text next parts n few e =
    elim (cond_is (bytes_eq text (codes "end")) (cond (is_rest (next ∷ parts)) (Ok None) (Err (number + 1))) (cond (left == 0) (Err number) (call_line number (line_at callers text))) (Err n) e) [
      | inl q ↦ elim (cond_is (is_rest (next ∷ parts)) (Ok None) (Err (number + 1)) (Err n) q.1) [
        | inl r ↦ absurd (cc r.1)
        | inr r ↦ inr (Past, inl (bytes_are text (codes "end") q.0, refl), past_bad (number + 1) n next parts r.0 (cc r.1))
      ]
      | inr q ↦ elim (cond_is (left == 0) (Err number) (call_line number (line_at callers text)) (Err n) q.1) [
        | inl r ↦ inl (cc r.1, full_bad callers left text q.0 r.0)
        | inr r ↦ let c = call_line_err number n (line_at callers text) r.1 in inl (c.0, call_bad callers left text few q.0 c.1)
      ]
    ]

-- ---- lines

with_step_ok : (step : Result (Option Line) ℕ) (more : Result (List Line) ℕ) (lines : List Line) → with_step step more ≡ Ok lines → ((step ≡ Ok None) × ([] ≡ lines)) ⊎ ((line : Line) × (others : List Line) × (step ≡ Ok (Some line)) × (more ≡ Ok others) × (line ∷ others ≡ lines))
with_step_ok (Ok (Some line)) (Ok others) lines e = inr (line, others, refl, refl, cc)
with_step_ok (Ok (Some line)) (Err n) lines e = absurd cc
with_step_ok (Ok None) more lines e = inl (refl, cc)
with_step_ok (Err n) more lines e = absurd cc

with_step_err : (step : Result (Option Line) ℕ) (more : Result (List Line) ℕ) (n : ℕ) → with_step step more ≡ Err n → (step ≡ Err n) ⊎ ((line : Line) × (step ≡ Ok (Some line)) × (more ≡ Err n))
with_step_err (Ok (Some line)) (Ok others) n e = absurd cc
with_step_err (Ok (Some line)) (Err m) n e = inr (line, refl, e)
with_step_err (Ok None) more n e = absurd cc
with_step_err (Err m) more n e = inl (let same : m ≡ n = cc in ap (λ (k : ℕ). Err k) same)

pub some_left : (left : ℕ) → (left == 0) ≡ false → 0 < left
some_left zero e = absurd cc
some_left (suc n) e = omega arith

pub lines_found : (callers left number : ℕ) (texts : List (List ℕ)) (lines : List Line) → lines_at callers left number texts ≡ Ok lines → (call_lines lines ≡ texts) × AllByRecursion (FitsLine callers) lines × (length lines ≤ left)
unfolding lines_at
lines_found callers left number [] lines e = absurd cc
lines_found callers left number (text ∷ rest) lines e =
    elim (with_step_ok (step_at callers (left == 0) number text rest) (lines_at callers (left - 1) (number + 1) rest) lines e) [
      | inl p ↦
          let s = step_none callers (left == 0) number text rest p.0 in
          rw (← p.1, s.0, s.1) (refl, tt, omega arith)
      | inr p ↦
          let s = step_some callers (left == 0) number text rest p.0 p.2 in
          let one = line_found callers text p.0 s.1 in
          let more = lines_found callers (left - 1) (number + 1) rest p.1 p.3 in
          let some : 0 < left = some_left left s.0 in
          let few : suc (length p.1) ≤ left = omega (arith, more.2) in
          rw (← p.4, one.0, more.0) (refl, (one.1, more.1), few)
    ]

lines_not_nil : (lines : List Line) → is_nil (call_lines lines) ≡ false
lines_not_nil [] = refl
lines_not_nil (line ∷ lines) = refl

pub lines_again : (callers left number : ℕ) (lines : List Line) → callers ≤ 16 → AllByRecursion (FitsLine callers) lines → length lines ≤ left → lines_at callers left number (call_lines lines) ≡ Ok lines
unfolding lines_at step_at
lines_again callers left number [] few fits count = refl
lines_again callers left number (line ∷ lines) few fits count =
    let goes_on : is_nil (call_lines lines) ≡ false = lines_not_nil lines in
    let other : bytes_eq (line_text line) (codes "end") ≡ false = line_is_no_end callers line few fits.0 in
    let some : (left == 0) ≡ false = ne_eqb left 0 (λ e. absurd (omega arith)) in
    let one : line_at callers (line_text line) ≡ Some line = line_again callers line few fits.0 in
    let more : lines_at callers (left - 1) (number + 1) (call_lines lines) ≡ Ok lines = lines_again callers (left - 1) (number + 1) lines few fits.1 (omega arith) in
    rw (goes_on, other, some, one, more) refl

pub lines_bad : (callers left number : ℕ) (texts : List (List ℕ)) (n : ℕ) → callers ≤ 16 → lines_at callers left number texts ≡ Err n → IsBadFrom (Later callers left) number texts n
unfolding lines_at step_at
lines_bad callers left number [] n few e = cc
lines_bad callers left number (last ∷ []) n few e = (cc, λ (p : (Later callers left ≡ Past) × (last ≡ [])). cc p.0)
lines_bad callers left number (text ∷ next ∷ parts) n few e =
    elim (with_step_err (step_at callers (left == 0) number text (next ∷ parts)) (lines_at callers (left - 1) (number + 1) (next ∷ parts)) n e) [
      | inl p ↦ step_bad callers left number text next parts n few p
      | inr p ↦
          let s = step_some callers (left == 0) number text (next ∷ parts) p.0 p.1 in
          let one = line_found callers text p.0 s.1 in
          inr (Later callers (left - 1), inr (some_left left s.0, (p.0, one.1, sym one.0), refl), lines_bad callers (left - 1) (number + 1) (next ∷ parts) n few p.2)
    ]

pub lines_lack : (callers : ℕ) (lines : List Line) → callers ≤ 16 → AllByRecursion (FitsLine callers) lines → EachLacks 10 (call_lines lines)
lines_lack callers [] few fits = (refl, (refl, tt))
lines_lack callers (line ∷ lines) few fits = (line_lacks callers line few fits.0, lines_lack callers lines few fits.1)
