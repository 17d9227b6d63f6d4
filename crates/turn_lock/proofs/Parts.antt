-- The numbers of a pass, and their parts.
use Rattle.std.proofs.Common.{◌≡◌, ℕ, zero, suc, ◌<◌, ◌≤◌, Bool, true, false, cond, nat_eq, List, [], ◌∷◌, ◌++◌, length, Option, Some, None, refl, sym, ap, ◌∙◌, eq-eqb, ne_eqb, arith}
use Rattle.std.specs.Prelude.{is_some}
use Rattle.std.specs.Option.{option_or}
use mathlib.Core.Logic.{dite}
use native.Mathlib.Decide.{ℕ_discrete}
use Rattle.turn_lock.specs.Known.{part_in, is_in}
use Rattle.turn_lock.specs.Turns.{parts_to}
use Rattle.turn_lock.specs.Plays.{refreshed, without_number, only_number}

-- a number that stands there has a part
pub its_part : {Q : Type 0} (n : ℕ) (m : List (ℕ × Q)) → is_in n m ≡ true → (q : Q) × (part_in n m ≡ Some q)
its_part {Q} n m h = (elim (part_in n m) as (λ o. is_some o ≡ true → (q : Q) × (o ≡ Some q)) [ None ↦ λ t. cc | Some q ↦ λ t. (q, refl) ]) h

pub is_there : {Q : Type 0} (n : ℕ) (m : List (ℕ × Q)) (q : Q) → part_in n m ≡ Some q → is_in n m ≡ true
is_there n m q e = ap is_some e

pub some_number : {Q : Type 0} (n : ℕ) (m : List (ℕ × Q)) → is_in n m ≡ true → 0 < length m
some_number n [] h = cc
some_number n (e ∷ m) h = omega arith

pub first_number : {Q : Type 0} (m : List (ℕ × Q)) → 0 < length m → (n : ℕ) × ((q : Q) × (part_in n m ≡ Some q))
first_number [] h = absurd (omega arith)
first_number (e ∷ m) h = (e.0, (e.1, ap (λ b. cond b (Some e.1) (part_in e.0 m)) (eq-eqb e.0 e.0 refl)))

-- its part is a new one, where the number stands there
pub part_refreshed : {Q : Type 0} (p : ℕ → Q) (n : ℕ) (m : List (ℕ × Q)) → part_in n (refreshed p m) ≡ cond (is_in n m) (Some (p n)) None
part_refreshed p n [] = refl
part_refreshed p n (e ∷ m) = dite (ℕ_discrete n e.0)
    (λ q. rw (eq-eqb n e.0 q) (ap (λ k. Some (p k)) (sym q)))
    (λ ne. rw (ne_eqb n e.0 ne) (part_refreshed p n m))

pub still_in : {Q : Type 0} (p : ℕ → Q) (n : ℕ) (m : List (ℕ × Q)) → is_in n (refreshed p m) ≡ is_in n m
still_in p n [] = refl
still_in p n (e ∷ m) = dite (ℕ_discrete n e.0)
    (λ q. rw (eq-eqb n e.0 q) refl)
    (λ ne. rw (ne_eqb n e.0 ne) (still_in p n m))

pub new_part : {Q : Type 0} (p : ℕ → Q) (n : ℕ) (m : List (ℕ × Q)) (q : Q) → part_in n (refreshed p m) ≡ Some q → (is_in n m ≡ true) × (q ≡ p n)
new_part {Q} p n m q e = (elim (is_in n m) as (λ b. cond b (Some (p n)) None ≡ Some q → (b ≡ true) × (q ≡ p n)) [ true ↦ λ t. (refl, (cc)) | false ↦ λ t. cc ]) (sym (part_refreshed p n m) ∙ e)

pub some_left : {Q : Type 0} (p : ℕ → Q) (m : List (ℕ × Q)) → 0 < length m → 0 < length (refreshed p m)
some_left p [] h = h
some_left p (e ∷ m) h = omega arith

neither : {Q : Type 0} (b : Bool) → ◌≡◌ {A = Option Q} None (cond b None None)
neither true = refl
neither false = refl

pub part_without : {Q : Type 0} (k n : ℕ) (m : List (ℕ × Q)) → part_in n (without_number k m) ≡ cond (nat_eq n k) None (part_in n m)
part_without k n [] = neither (nat_eq n k)
part_without k n (e ∷ m) = dite (ℕ_discrete e.0 k)
    (λ q. rw (eq-eqb e.0 k q) (part_without k n m ∙ dite (ℕ_discrete n k)
    (λ p. rw (eq-eqb n k p) refl)
    (λ np. rw (ne_eqb n k np, ne_eqb n e.0 (λ s. np (s ∙ q))) refl)))
    (λ nq. rw (ne_eqb e.0 k nq) (dite (ℕ_discrete n e.0)
    (λ s. rw (eq-eqb n e.0 s, ne_eqb n k (λ p. nq (sym s ∙ p))) refl)
    (λ ns. rw (ne_eqb n e.0 ns) (part_without k n m))))

pub part_only : {Q : Type 0} (k n : ℕ) (m : List (ℕ × Q)) → part_in n (only_number k m) ≡ cond (nat_eq n k) (part_in n m) None
part_only k n [] = neither (nat_eq n k)
part_only k n (e ∷ m) = dite (ℕ_discrete e.0 k)
    (λ q. rw (eq-eqb e.0 k q) (dite (ℕ_discrete n e.0)
    (λ s. rw (eq-eqb n e.0 s, eq-eqb n k (s ∙ q)) refl)
    (λ ns. rw (ne_eqb n e.0 ns) (part_only k n m))))
    (λ nq. rw (ne_eqb e.0 k nq) (part_only k n m ∙ dite (ℕ_discrete n k)
    (λ p. rw (eq-eqb n k p, ne_eqb n e.0 (λ s. nq (sym s ∙ p))) refl)
    (λ np. rw (ne_eqb n k np) refl)))

pub part_both : {Q : Type 0} (n : ℕ) (a b : List (ℕ × Q)) → part_in n (a ++ b) ≡ option_or (part_in n a) (part_in n b)
part_both n [] b = refl
part_both n (e ∷ a) b = dite (ℕ_discrete n e.0)
    (λ q. rw (eq-eqb n e.0 q) refl)
    (λ ne. rw (ne_eqb n e.0 ne) (part_both n a b))

-- what is found in two lists is found in one of them
pub of_both : {Q : Type 0} (x y : Option Q) (q : Q) (P : Type 0) → option_or x y ≡ Some q → (x ≡ Some q → P) → (y ≡ Some q → P) → P
of_both {Q} x y q P e a b = (elim x as (λ o. option_or o y ≡ Some q → (o ≡ Some q → P) → P) [ None ↦ λ t f. b t | Some z ↦ λ t f. f t ]) e a

pub in_first : {Q : Type 0} (n : ℕ) (a b : List (ℕ × Q)) → is_in n a ≡ true → is_in n (a ++ b) ≡ true
in_first n a b h = let f = its_part n a h in ap is_some (part_both n a b ∙ ap (λ o. option_or o (part_in n b)) f.1)

pub in_second : {Q : Type 0} (n : ℕ) (a b : List (ℕ × Q)) → is_in n b ≡ true → is_in n (a ++ b) ≡ true
in_second {Q} n a b h = ap is_some (part_both n a b) ∙ (elim (part_in n a) as (λ o. is_some (option_or o (part_in n b)) ≡ true) [ None ↦ h | Some q ↦ refl ])

-- the first pass has exactly the numbers from 1 on
pub part_to : {Q : Type 0} (p : ℕ → Q) (top n : ℕ) → 0 < n → n ≤ top → part_in n (parts_to p top) ≡ Some (p n)
part_to p zero n low high = absurd (omega arith)
part_to p (suc top) n low high = dite (ℕ_discrete n (suc top))
    (λ e. rw (eq-eqb n (suc top) e) (ap (λ k. Some (p k)) (sym e)))
    (λ ne. rw (ne_eqb n (suc top) ne) (part_to p top n low (omega (arith, ne))))

pub only_to : {Q : Type 0} (p : ℕ → Q) (top n : ℕ) (q : Q) → part_in n (parts_to p top) ≡ Some q → (q ≡ p n) × (0 < n) × (n ≤ top)
only_to p zero n q e = cc
only_to p (suc top) n q e = dite (ℕ_discrete n (suc top))
    (λ s. let e' = rw (eq-eqb n (suc top) s) at e in ((let t : p (suc top) ≡ q = cc in sym t ∙ ap p (sym s)), omega (arith, s), omega (arith, s)))
    (λ ns. let e' = rw (ne_eqb n (suc top) ns) at e in let r = only_to p top n q e' in (r.0, r.1, omega (arith, r.2)))

pub length_to : {Q : Type 0} (p : ℕ → Q) (top : ℕ) → 0 < top → 0 < length (parts_to p top)
length_to p zero h = h
length_to p (suc top) h = omega arith
