-- The views by their places, and the beginnings of a list.
use Rattle.std.proofs.Common.{◌≡◌, ◌≢◌, ◌⊎◌, ℕ, zero, suc, ◌≤◌, Bool, true, false, cond, List, [], ◌∷◌, ◌++◌, length, refl, sym, ap, ◌∙◌, subst, inl, inr, ⊎_elim, set, nat_lt, append_assoc, append-nil, arith}
use Rattle.std.proofs.lemmas.Bool.Decides.{nat_tests}
use mathlib.Core.Option.{some, some-injective, some-ne-none}
use mathlib.Core.Logic.{dite}
use native.Mathlib.Decide.{ℕ_discrete}
use lib.ListN.{get_elem?}
use Rattle.atomic_table.proofs.Lists.{at_set, set_else}
use Rattle.turn_lock.specs.Known.{StartsWith, longer}
use Rattle.turn_lock.specs.Turns.{At}

pub not_true : (b : Bool) → (b ≡ true → ⊥) → b ≡ false
not_true true h = absurd (h refl)
not_true false h = refl

pub set_at : {A : Type 0} (l : List A) (i : ℕ) (a b : A) → get_elem? l i ≡ some a → get_elem? (set l i b) i ≡ some b
set_at [] i a b e = absurd (some-ne-none a (sym e))
set_at (x ∷ l) zero a b e = refl
set_at (x ∷ l) (suc i) a b e = set_at l i a b e

-- the element at j of a list with one more at its end is an old one, or the new one
pub snoc_at : {A : Type 0} (l : List A) (a b : A) (j : ℕ) → get_elem? (l ++ a ∷ []) j ≡ some b → (get_elem? l j ≡ some b) ⊎ ((length l ≡ j) × (a ≡ b))
snoc_at [] a b zero e = inr (refl, some-injective a b e)
snoc_at [] a b (suc j) e = absurd (some-ne-none b (sym e))
snoc_at (x ∷ l) a b zero e = inl e
snoc_at (x ∷ l) a b (suc j) e = ⊎_elim (λ t. inl t) (λ (t : (length l ≡ j) × (a ≡ b)). inr (ap suc t.0, t.1)) (snoc_at l a b j e)

module _ {W : Type 0} where
  -- what is true of each view is still so, where one changes
  pub keep_each : (Know : ℕ → W → Type 0) (views : List W) (id : ℕ) (u : W) → Know id u → ((j : ℕ) (x : W) → j ≢ id → get_elem? views j ≡ some x → Know j x)
      → (j : ℕ) (x : W) → get_elem? (set views id u) j ≡ some x → Know j x
  keep_each Know views id u mine others j x at =
      ⊎_elim (λ (t : (j ≡ id) × (u ≡ x)). subst (λ i. Know i x) (sym t.0) (subst (λ w. Know id w) t.1 mine)) (λ (t : (j ≢ id) × (get_elem? views j ≡ some x)). others j x t.0 t.1)
      (at_set views id j u x at)

  -- two views at one place are one
  pub same_view : (views : List W) (i j : ℕ) (v w : W) → i ≡ j → get_elem? views i ≡ some v → get_elem? views j ≡ some w → v ≡ w
  same_view views i j v w e p q = some-injective v w (sym p ∙ (ap (get_elem? views) e ∙ q))

  -- what is true of the view at j is still so, where the view at `id` changes and keeps it
  pub keep_at : (P : W → Type 0) (views : List W) (id : ℕ) (v u : W) → get_elem? views id ≡ some v → (P v → P u) → (j : ℕ) → At P views j → At P (set views id u) j
  keep_at P views id v u at on j a = dite (ℕ_discrete j id)
      (λ e. (u, ap (get_elem? (set views id u)) e ∙ set_at views id v u at, on (subst P (same_view views j id a.0 v e a.1 at) a.2)))
      (λ ne. (a.0, set_else views id j u ne ∙ a.1, a.2))

pub whole : {E : Type 0} (xs : List E) → StartsWith xs xs
whole xs = ([], sym (append-nil xs))

pub further : {E : Type 0} (xs ys zs : List E) → StartsWith xs ys → StartsWith ys zs → StartsWith xs zs
further xs ys zs a b = (b.0 ++ a.0, a.1 ∙ (ap (λ l. l ++ a.0) b.1 ∙ append_assoc zs b.0 a.0))

begins : {E : Type 0} (a b r s : List E) → a ++ r ≡ b ++ s → length a ≤ length b → StartsWith b a
begins [] b r s e le = (b, refl)
begins (x ∷ a) [] r s e le = absurd (omega arith)
begins (x ∷ a) (y ∷ b) r s e le =
    let h : x ≡ y = cc in let t : a ++ r ≡ b ++ s = cc in
    let on = begins a b r s t (omega arith) in
    (on.0, (λ i. sym h i ∷ on.1 i))

-- of two beginnings of one list, each begins the longer
pub compared : {E : Type 0} (l a b : List E) → StartsWith l a → StartsWith l b → StartsWith (longer a b) a × StartsWith (longer a b) b × StartsWith l (longer a b)
compared l a b p q = (elim (nat_lt (length a) (length b)) as (λ z. nat_lt (length a) (length b) ≡ z → StartsWith (cond z b a) a × StartsWith (cond z b a) b × StartsWith l (cond z b a)) [
  | true ↦ λ t. let lt : length a ≤ length b = grind (arith, nat_tests) in (begins a b p.0 q.0 (sym p.1 ∙ q.1) lt, whole b, q)
  | false ↦ λ t. let le : length b ≤ length a = grind (arith, nat_tests) in (whole a, begins b a q.0 p.0 (sym q.1 ∙ p.1) le, p)
]) refl
