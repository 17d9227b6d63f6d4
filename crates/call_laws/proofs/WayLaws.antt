-- Ways up from a directory have fewer steps than its store has numbers.
use Rattle.std.proofs.Common.{◌≡◌, ℕ, zero, suc, ◌+◌, ◌-◌, ◌≤◌, ◌<◌, ◌⊎◌, inl, inr, true, false, cond, ◌==◌, refl, ap, sym, ◌∙◌, arith, eqb-true, eq-eqb}
use Rattle.std.proofs.lemmas.Bool.{cases_order}
use Rattle.std.specs.Prelude.{Option, IsSome}
use Rattle.std.specs.FinMap.{get}
use Rattle.vfs_tree.specs.Child.{steps}
use Rattle.vfs_tree.specs.Layers.{parent_by}
use Rattle.vfs_tree.specs.Sound.{climb, LeadsUp}
use Rattle.vfs_tree.specs.Views.{dir_in}
use Rattle.vfs_tree.specs.declared.node.Store.{Store}
use Rattle.vfs_tree.specs.declared.view.DirFacts.{DirFacts}
use Rattle.call_laws.proofs.DropLaws.{some_kind, parent_there}
use Rattle.call_laws.proofs.MadeLaws.{kind_at}
use Rattle.call_laws.proofs.NamedLaws.{no_way}
use Rattle.call_laws.proofs.WholeLaws.{IsWell}

-- ---- numbers below another one that are all different are no more than that

abbrev AreInto : (ℕ → ℕ) → ℕ → ℕ → Type 0
AreInto f n m = (i : ℕ) → i < n → f i < m

abbrev AreApart : (ℕ → ℕ) → ℕ → Type 0
AreApart f n = (i j : ℕ) → i < n → j < n → f i ≡ f j → i ≡ j

-- the last value stands in the place of the greatest
abbrev without : (ℕ → ℕ) → ℕ → ℕ → ℕ → ℕ
without f m n i = cond (f i == m) (f n) (f i)

-- what stands there is the last value where the greatest stood, and else what stood
abbrev Stands : (ℕ → ℕ) → ℕ → ℕ → ℕ → ℕ → Type 0
Stands f m n i r = ((f i ≡ m) × (r ≡ f n)) ⊎ ((f i ≡ m → ⊥) × (r ≡ f i))

stands : (f : ℕ → ℕ) (m n i : ℕ) → Stands f m n i (without f m n i)
stands f m n i =
    elim (f i == m) as (λ b. (f i == m) ≡ b → Stands f m n i (cond b (f n) (f i))) [
      | true ↦ λ is. inl (eqb-true (f i) m is, refl)
      | false ↦ λ is. inr (λ e. no_way (sym is ∙ eq-eqb (f i) m e), refl)
    ] refl

into_fewer : (f : ℕ → ℕ) (n m : ℕ) → AreInto f (suc n) (suc m) → AreApart f (suc n) → AreInto (without f m n) n m
into_fewer f n m into apart i less =
    let a = into i (omega (arith, less)) in
    let b = into n (omega arith) in
    let ne : f i ≡ f n → ⊥ = λ e. let z = apart i n (omega (arith, less)) (omega arith) e in omega (arith, z, less) in
    elim (stands f m n i) as (λ _. without f m n i < m) [ inl w ↦ omega (arith, w.0, w.1, a, b, ne) | inr w ↦ omega (arith, w.0, w.1, a) ]

apart_fewer : (f : ℕ → ℕ) (n m : ℕ) → AreApart f (suc n) → AreApart (without f m n) n
apart_fewer f n m apart i j p q e =
    elim (stands f m n i) as (λ _. i ≡ j) [
      | inl v ↦ elim (stands f m n j) as (λ _. i ≡ j) [
        | inl w ↦ apart i j (omega (arith, p)) (omega (arith, q)) (v.0 ∙ sym w.0)
        | inr w ↦ let z = apart n j (omega arith) (omega (arith, q)) (sym v.1 ∙ e ∙ w.1) in absurd (omega (arith, z, q))
      ]
      | inr v ↦ elim (stands f m n j) as (λ _. i ≡ j) [
        | inl w ↦ let z = apart i n (omega (arith, p)) (omega arith) (sym v.1 ∙ e ∙ w.1) in absurd (omega (arith, z, p))
        | inr w ↦ apart i j (omega (arith, p)) (omega (arith, q)) (sym v.1 ∙ e ∙ w.1)
      ]
    ]

pigeonhole : (n m : ℕ) (f : ℕ → ℕ) → AreInto f n m → AreApart f n → n ≤ m
pigeonhole zero m f into apart = omega arith
pigeonhole (suc n) zero f into apart = absurd (omega (arith, into n (omega arith)))
pigeonhole (suc n) (suc m) f into apart = omega (arith, pigeonhole n m (without f m n) (into_fewer f n m into apart) (apart_fewer f n m apart))

-- ---- ways up

-- the first step up that comes to the root
record Least (dir : ℕ → Option DirFacts) (d : ℕ) : Type 0 where
  pub steps : ℕ
  pub root : climb steps dir d ≡ 1
  pub first : (j : ℕ) → j < steps → climb j dir d ≡ 1 → ⊥

pub not_one : (d : ℕ) → (d == 1) ≡ false → d ≡ 1 → ⊥
not_one d e is = no_way (sym e ∙ eq-eqb d 1 is)

later : (dir : ℕ → Option DirFacts) (d : ℕ) → (d == 1) ≡ false → Least dir (parent_by d (dir d)) → Least dir d
later dir d other up = record { steps = suc up.steps; root = up.root; first = first }
  where
    first : (j : ℕ) → j < suc up.steps → climb j dir d ≡ 1 → ⊥
    first zero less e = not_one d other e
    first (suc j) less e = up.first j (omega (arith, less)) e

least : (dir : ℕ → Option DirFacts) (k d : ℕ) → climb k dir d ≡ 1 → Least dir d
least dir zero d e = record { steps = 0; root = e; first = λ j less is. absurd (omega (arith, less)) }
least dir (suc k) d e =
    elim (d == 1) as (λ b. (d == 1) ≡ b → Least dir d) [
      | true ↦ λ is. record { steps = 0; root = eqb-true d 1 is; first = λ j less is. absurd (omega (arith, less)) }
      | false ↦ λ is. later dir d is (least dir k (parent_by d (dir d)) e)
    ] refl

climb_add : (dir : ℕ → Option DirFacts) (a b d : ℕ) → climb (a + b) dir d ≡ climb b dir (climb a dir d)
climb_add dir zero b d = let e : zero + b ≡ b = omega arith in ap (λ x. climb x dir d) e
climb_add dir (suc a) b d = let e : suc a + b ≡ suc (a + b) = omega arith in ap (λ x. climb x dir d) e ∙ climb_add dir a b (parent_by d (dir d))

-- two places on the way to the root are not the same
apart : (dir : ℕ → Option DirFacts) (d : ℕ) (x : Least dir d) (i j : ℕ) → i < j → j ≤ x.steps → climb i dir d ≡ climb j dir d → ⊥
apart dir d x i j less most same =
    let r : ℕ = x.steps - j in
    let whole : j + r ≡ x.steps = omega (arith, most) in
    let fewer : i + r < x.steps = omega (arith, less, most) in
    x.first (i + r) fewer (climb_add dir i r d ∙ ap (climb r dir) same ∙ sym (climb_add dir j r d) ∙ ap (λ k. climb k dir d) whole ∙ x.root)

there_along : (t : Store) → IsWell t → (k d : ℕ) → IsSome (kind_at t d) → IsSome (kind_at t (climb k (dir_in t) d))
there_along t h zero d there = there
there_along t h (suc k) d there = there_along t h k (parent_by d (dir_in t d)) (parent_there t d (h.parents d) there)

short : (t : Store) → IsWell t → (d : ℕ) → IsSome (kind_at t d) → (x : Least (dir_in t) d) → suc x.steps ≤ t.next
short t h d there x =
    pigeonhole (suc x.steps) t.next (λ k. climb k (dir_in t) d)
    (λ i less. h.below (climb i (dir_in t) d) (some_kind (get t.nodes (climb i (dir_in t) d)) (there_along t h i d there)))
    (λ i j p q same. elim (cases_order i j) as (λ _. i ≡ j) [
      | inl e ↦ e
      | inr r ↦ elim r as (λ _. i ≡ j) [
        | inl less ↦ absurd (apart (dir_in t) d x i j less (omega (arith, q)) same)
        | inr more ↦ absurd (apart (dir_in t) d x j i more (omega (arith, p)) (sym same))
      ]
    ])

-- a way up to the root with fewer steps than the store has numbers
pub record ShortWay (t : Store) (d : ℕ) : Type 0 where
  pub steps : ℕ
  pub root : climb steps (dir_in t) d ≡ 1
  pub less : suc steps ≤ t.next

pub short_way : (t : Store) → IsWell t → (d : ℕ) → IsSome (kind_at t d) → LeadsUp (dir_in t) d → ShortWay t d
short_way t h d there up =
    let l : Least (dir_in t) d = least (dir_in t) up.steps d up.root in
    record { steps = l.steps; root = l.root; less = short t h d there l }

-- they are fewer than the steps by which definitions look
pub fits_steps : (k : ℕ) → suc k ≤ 4294967295 → k < steps
unfolding steps
fits_steps k h = omega (arith, h)
