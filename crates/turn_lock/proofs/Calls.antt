-- The steps as the calls make them.
use Rattle.std.proofs.Common.{◌≡◌, ℕ, ◌+◌, ◌%◌, ◌^◌, ◌<◌, List, [], ◌∷◌, length, Option, Some, None, refl, sym, ap, ◌∙◌, subst}
use mathlib.Core.Option.{none}
use Rattle.atomic_table.specs.Table.{Me, step, Allows, rest}
use Rattle.turn_lock.specs.declared.view.View.{View}
use Rattle.turn_lock.specs.Known.{StartsWith}
use Rattle.turn_lock.specs.Turns.{Turns}
use Rattle.turn_lock.specs.Plays.{recounted, passed, done, recount, Took, taking, Holds, IsIdle, Entered, MayLeave, Left, with_ticket, AreKnown, Rests}
use Rattle.turn_lock.proofs.Passing.{counts, passes, first_of}

-- a pass that holds no turn has no ticket, and no slot is out with it
pub at_rest : {T : Type 0} (out : Option T) (ticket : Option ℕ) (slots : List (ℕ × Option T)) → Rests out ticket slots → out ≡ None → (ticket ≡ None) × (slots ≡ [])
at_rest None ticket slots r e = r
at_rest (Some y) ticket slots r e = cc

module _ {T E F Q : Type 0} (list : T → List E) (fixed : T → F) (part : T → ℕ → Q) where
  abbrev M : Type 0
  M = Me (Option T) (View T E F Q)

  put_in : (old m : M) (x y : T) → Holds x old → m ≡ (old.0, (0, Some y) ∷ rest old.1) → m ≡ (old.0, (0, Some y) ∷ [])
  put_in old m x y h is = is ∙ ap (λ l. (old.0, (0, Some y) ∷ rest l)) h.1

  pub counts_on : (kept_fixed : F) (top id slots : ℕ) (old m : M) (y : T) (added : ℕ) → MayLeave list fixed part old y → m ≡ (old.0, (0, Some y) ∷ rest old.1)
      → length old.0.seen + added ≡ length (list y) → length (list y) < 2 ^ 64
      → Allows (Turns list fixed part kept_fixed top) slots id m 2 (λ n. (n + added) % 2 ^ 64) (recounted list part (step slots 2 added 0 none) m)
  counts_on kept_fixed top id slots old m y added may is more fits =
      subst (λ (s : M). Allows (Turns list fixed part kept_fixed top) slots id s 2 (λ n. (n + added) % 2 ^ 64) (recounted list part (step slots 2 added 0 none) s)) (sym (put_in old m may.out y may.holds is))
      (counts list fixed part kept_fixed top id slots old.0 may.out y added may.holds.0 may.later may.fixed_is may.others more fits)

  recounted_is : (old m n : M) (y : T) → MayLeave list fixed part old y → m ≡ (old.0, (0, Some y) ∷ rest old.1)
      → ((z : T) → m.1 ≡ (0, Some z) ∷ [] → n ≡ (recount list part z m.0, m.1)) → n ≡ (recount list part y old.0, (0, Some y) ∷ [])
  recounted_is old m n y may is told = let e = put_in old m may.out y may.holds is in told y (ap (λ (s : M). s.1) e) ∙ ap (λ (s : M). (recount list part y s.0, s.1)) e

  pub passes_on : (kept_fixed : F) (top id slots : ℕ) (old m n : M) (y : T) → MayLeave list fixed part old y → m ≡ (old.0, (0, Some y) ∷ rest old.1)
      → ((z : T) → m.1 ≡ (0, Some z) ∷ [] → n ≡ (recount list part z m.0, m.1))
      → Allows (Turns list fixed part kept_fixed top) slots id n 1 (λ k. (k + 1) % 2 ^ 64) (passed (step slots 1 1 0 none) n)
  passes_on kept_fixed top id slots old m n y may is told =
      subst (λ (s : M). Allows (Turns list fixed part kept_fixed top) slots id s 1 (λ k. (k + 1) % 2 ^ 64) (passed (step slots 1 1 0 none) s)) (sym (recounted_is old m n y may is told))
      (passes list fixed part kept_fixed top id slots (recount list part y old.0) y refl)

  pub left : (old m n p : M) (y : T) → MayLeave list fixed part old y → m ≡ (old.0, (0, Some y) ∷ rest old.1)
      → ((z : T) → m.1 ≡ (0, Some z) ∷ [] → n ≡ (recount list part z m.0, m.1)) → p ≡ (done n.0, rest n.1) → Left list fixed part old p y
  left old m n p y may is told gone =
      let e : p ≡ (done (recount list part y old.0), []) = gone ∙ ap (λ (s : M). (done s.0, rest s.1)) (recounted_is old m n y may is told) in
      record {
        idle = (ap (λ (s : M). s.0.ticket) e, ap (λ (s : M). s.0.out) e, ap (λ (s : M). s.1) e);
        seen = ap (λ (s : M). s.0.seen) e;
        fixed_is = ap (λ (s : M). s.0.fixed) e;
        mine = ap (λ (s : M). s.0.mine) e;
      }

  -- where the value lies once it was taken
  pub taken : (m n : M) → Took list fixed part m n → (x : Option T) × (n.1 ≡ (0, x) ∷ rest n.1)
  taken m n took = (Some took.0, ap (λ (s : M). s.1) took.1 ∙ ap (λ (s : M). (0, Some took.0) ∷ rest s.1) (sym took.1))

  value_is : (m n : M) (x : Option T) → (took : Took list fixed part m n) → n.1 ≡ (0, x) ∷ rest n.1 → Some took.0 ≡ x
  value_is m n x took found = ap first_of (sym (ap (λ (s : M). s.1) took.1) ∙ found)

  pub never : (m n : M) → Took list fixed part m n → n.1 ≡ (0, None) ∷ rest n.1 → ⊥
  never m n took found = let e : Some took.0 ≡ None = value_is m n None took found in cc

  pub entered : (old m n p : M) (ticket : ℕ) (z : T) → IsIdle old → m ≡ (with_ticket ticket old.0, old.1) → (took : Took list fixed part m n)
      → n.1 ≡ (0, Some z) ∷ rest n.1 → p ≡ (n.0, (0, None) ∷ rest n.1) → Entered list fixed part old p z
  entered old m n p ticket z idle drawn took found put =
      let y : T = took.0 in
      let same : y ≡ z = (let e : Some y ≡ Some z = value_is m n (Some z) took found in cc) in
      let nf : n ≡ (taking list fixed part y (with_ticket ticket old.0), (0, Some y) ∷ []) = took.1 ∙ (ap (λ (s : M). (taking list fixed part y s.0, (0, Some y) ∷ s.1)) drawn ∙ ap (λ l. (taking list fixed part y (with_ticket ticket old.0), (0, Some y) ∷ l)) idle.2) in
      let pf : p ≡ (taking list fixed part y (with_ticket ticket old.0), (0, None) ∷ []) = put ∙ ap (λ (s : M). (s.0, (0, None) ∷ rest s.1)) nf in
      subst (λ w. Entered list fixed part old p w) same (record {
        holds = (ap (λ (s : M). s.0.out) pf, ap (λ (s : M). s.1) pf);
        seen = ap (λ (s : M). s.0.seen) pf;
        same = (ap (λ (s : M). s.0.fixed) pf, ap (λ (s : M). s.0.mine) pf);
        later = subst (λ (s : M). StartsWith (list y) s.0.seen) drawn took.2;
        fixed_is = λ f q. took.3 f (ap (λ (s : M). s.0.fixed) drawn ∙ q);
        parts = subst (λ (s : M). AreKnown (part y) s.0.mine) drawn took.4;
      })
