-- The callers and calls of a script that has a text have numbers of at most 64 bits.
use Rattle.std.proofs.Common.{◌≡◌, ℕ, ◌<◌, ◌≤◌, ◌^◌, ◌==◌, ℤ, pos, negsuc, Bool, true, false, cond, List, [], ◌∷◌, refl, sym, subst, arith, nat_cmp}
use Rattle.std.specs.Prelude.{Option, Some}
use Rattle.std.specs.FinMap.{empty, get-empty}
use Rattle.std.specs.Int.Signed.{mag}
use Rattle.std.specs.List.{AllByRecursion}
use Rattle.std.proofs.lemmas.Bool.{eqb-true, eq-eqb}
use Rattle.call_model.specs.Legal.{calls_of, calls_in, next_call}
use Rattle.call_model.specs.declared.call.Call.{Call}
use Rattle.call_model.specs.declared.call.Call.TheVariants as call
use Rattle.call_model.specs.declared.call.Line.{Line}
use Rattle.call_model.specs.declared.entry.Entry.{Entry}
use Rattle.call_model.specs.declared.entry.Entry.TheVariants as entry
use Rattle.call_model.specs.declared.reply.Reply.{Reply}
use Rattle.script_text.specs.Fits.{IsNumber, IsOffset, FitsCall, FitsLine}
use Rattle.trace_text.specs.Bounded.{IsBounded, IsBoundedCall}
use Rattle.call_laws.proofs.MadeLaws.{none_some}
use Rattle.output_laws.proofs.KeyLaws.{few}

-- ---- calls that have words

small : (n : ℕ) → IsNumber n → IsBounded n
small n h = few n (omega (arith, h))

small_offset : (i : ℤ) → IsOffset i → mag i < 2 ^ 63
small_offset (pos n) h = omega (arith, h)
small_offset (negsuc n) h = omega (arith, h)

call_few : (x : Call) → FitsCall x → IsBoundedCall x
call_few (call.Close d) h = small d h
call_few (call.Read d n) h = (small d h.0, small n h.1)
call_few (call.Pread d n o) h = (small d h.0, small n h.1, small o h.2)
call_few (call.Write d bytes) h = small d h.0
call_few (call.Pwrite d o bytes) h = (small d h.0, small o h.1)
call_few (call.Lseek d x i) h = (small d h.0, small_offset i h.1)
call_few (call.Truncate p n) h = small n h.1
call_few (call.Ftruncate d n) h = (small d h.0, small n h.1)
call_few (call.Fstat d) h = small d h
call_few (call.Readdir d) h = small d h
call_few (call.Fchdir d) h = small d h
call_few _ h = tt

-- ---- the calls of a caller

-- the numbers of a caller and of its call
abbrev pub IsFew : ℕ → Call → Type 0
IsFew c x = IsBounded c × IsBoundedCall x

module _ (callers : ℕ) (most : callers ≤ 16) where
  line_few : (c : ℕ) (l : Line) → FitsLine callers l → (c == l.caller) ≡ true → IsFew c l.call
  line_few c l fits is =
      let same : c ≡ l.caller = eqb-true c l.caller is in
      let last : l.caller ≤ callers = fits.last in
      (few c (omega (arith, same, last, most)), call_few l.call fits.call)

  either_few : (c : ℕ) (x : Call) (xs : List Call) (b : Bool) → (b ≡ true → IsFew c x) → AllByRecursion (IsFew c) xs → AllByRecursion (IsFew c) (cond b (x ∷ xs) xs)
  either_few c x xs true h k = (h refl, k)
  either_few c x xs false h k = k

  pub lines_few : (c : ℕ) (ls : List Line) → AllByRecursion (FitsLine callers) ls → AllByRecursion (IsFew c) (calls_in c ls)
  lines_few c [] fits = tt
  lines_few c (l ∷ ls) fits = either_few c l.call (calls_in c ls) (c == l.caller) (line_few c l fits.0) (lines_few c ls fits.1)

-- ---- the calls of a history

-- each caller's calls have such numbers, and so has the caller
pub record HasFew (es : List Entry) : Type 0 where
  pub each : (c : ℕ) → AllByRecursion (IsFew c) (calls_of c es)

behind : (c : ℕ) (x : Call) (xs : List Call) (b : Bool) → AllByRecursion (IsFew c) (cond b (x ∷ xs) xs) → AllByRecursion (IsFew c) xs
behind c x xs true h = h.1
behind c x xs false h = h

pub few_first : (c : ℕ) (x : Call) (r : Reply) (es : List Entry) → HasFew (entry.Call c x r ∷ es) → IsFew c x
few_first c x r es h =
    let own : AllByRecursion (IsFew c) (x ∷ calls_of c es) = subst (λ b. AllByRecursion (IsFew c) (cond b (x ∷ calls_of c es) (calls_of c es))) (eq-eqb c c refl) (h.each c) in
    own.0

pub few_behind : (c : ℕ) (x : Call) (r : Reply) (es : List Entry) → HasFew (entry.Call c x r ∷ es) → HasFew es
few_behind c x r es h = record { each = λ d. behind d x (calls_of d es) (d == c) (h.each d) }

next_case : (c d : ℕ) (x y : Call) (o : Option Call) (b : Bool) → (c == d) ≡ b → IsBounded d → (o ≡ Some y → IsBounded c) → cond b (Some x) o ≡ Some y → IsBounded c
next_case c d x y o true is own more e = subst (λ k. IsBounded k) (sym (eqb-true c d is)) own
next_case c d x y o false is own more e = more e

-- the caller of the next call entry
pub next_few : (c : ℕ) (x : Call) (es : List Entry) → HasFew es → next_call empty c es ≡ Some x → IsBounded c
next_few c x [] h e = none_some (get-empty {X = Call} nat_cmp c) e
next_few c x (entry.Call d y r ∷ es) h e = next_case c d y x (next_call empty c es) (c == d) refl (few_first d y r es h).0 (next_few c x es (few_behind d y r es h)) e
next_few c x (entry.Inner d y ∷ es) h e = next_few c x es (record { each = h.each }) e
