-- Lists in a total order, by recursion.
use Rattle.std.proofs.Common.{ℕ, zero, suc, ◌≡◌, ◌<◌, true, false, cond, refl, sym, ap, ◌∙◌, subst, inl, inr, ◌⊎◌, List, [], ◌∷◌, ◌++◌, length, slice_index_or, arith}
use Rattle.std.specs.declared.cmp.Ordering.{Ordering}
use Rattle.std.specs.declared.cmp.Ordering.TheVariants.{Less, Equal, Greater}
use Rattle.std.specs.Ordering.{is_lt, is_eq, ordering_reverse}
use Rattle.std.specs.Cmp.{IsTotalOrder}
use Rattle.std.specs.List.{AllByRecursion, Contains}
use Rattle.std.specs.List.Sorted.{IsStrictlySortedBy}
use Rattle.union_fs.specs.Names.{front_below, rest_from, begins_with}

-- x stands in the list
abbrev pub In : {K : Type 0} → K → List K → Type 0
In x [] = ⊥
In x (y ∷ ys) = (x ≡ y) ⊎ In x ys

pub in_from : {K : Type 0} (x : K) (xs : List K) (k : ℕ) → k < length xs → slice_index_or xs k x ≡ x → In x xs
in_from x [] k lt e = absurd (omega (arith, lt))
in_from x (y ∷ ys) zero lt e = inl (sym e)
in_from x (y ∷ ys) (suc k) lt e = inr (in_from x ys k (omega (arith, lt)) e)

pub In-contains : {K : Type 0} (x : K) (xs : List K) → Contains xs x → In x xs
In-contains x xs h = in_from x xs h.0 h.1 h.2

pub Contains-in : {K : Type 0} (x : K) (xs : List K) → In x xs → Contains xs x
Contains-in x [] h = absurd h
Contains-in x (y ∷ ys) (inl e) = (0, omega arith, sym e)
Contains-in x (y ∷ ys) (inr h) = let rest = Contains-in x ys h in (suc rest.0, (let lt = rest.1 in omega arith), rest.2)

pub In-append : {K : Type 0} (x : K) (xs ys : List K) → In x (xs ++ ys) → In x xs ⊎ In x ys
In-append x [] ys h = inr h
In-append x (y ∷ xs) ys (inl e) = inl (inl e)
In-append x (y ∷ xs) ys (inr h) = elim (In-append x xs ys h) [ inl l ↦ inl (inr l) | inr r ↦ inr r ]

pub in_left : {K : Type 0} (x : K) (xs ys : List K) → In x xs → In x (xs ++ ys)
in_left x [] ys h = absurd h
in_left x (y ∷ xs) ys (inl e) = inl e
in_left x (y ∷ xs) ys (inr h) = inr (in_left x xs ys h)

pub in_right : {K : Type 0} (x : K) (xs ys : List K) → In x ys → In x (xs ++ ys)
in_right x [] ys h = h
in_right x (y ∷ xs) ys h = inr (in_right x xs ys h)

by_each : {K : Type 0} (P : K → Type 0) (xs : List K) → AllByRecursion P xs → (y : K) → In y xs → P y
by_each P [] a y h = absurd h
by_each P (x ∷ xs) a y (inl e) = subst P (sym e) a.0
by_each P (x ∷ xs) a y (inr h) = by_each P xs a.1 y h

by_all : {K : Type 0} (P : K → Type 0) (xs : List K) → ((y : K) → In y xs → P y) → AllByRecursion P xs
by_all P [] f = tt
by_all P (x ∷ xs) f = (f x (inl refl), by_all P xs (λ y h. f y (inr h)))

module _ {K : Type 0} (R : K → K → Ordering) where
  -- each element is below those after it
  abbrev pub Sorted : List K → Type 0
  Sorted [] = Unit {0}
  Sorted (x ∷ xs) = ((y : K) → In y xs → R x y ≡ Less) × Sorted xs

  pub sorted_in : (xs : List K) → IsStrictlySortedBy R xs → Sorted xs
  unfolding IsStrictlySortedBy
  sorted_in [] s = tt
  sorted_in (x ∷ xs) s = (by_each (λ y. R x y ≡ Less) xs s.0, sorted_in xs s.1)

  pub sorted_out : (xs : List K) → Sorted xs → IsStrictlySortedBy R xs
  unfolding IsStrictlySortedBy
  sorted_out [] s = tt
  sorted_out (x ∷ xs) s = (by_all (λ y. R x y ≡ Less) xs s.0, sorted_out xs s.1)

  pub Sorted-append : (xs ys : List K) → Sorted xs → Sorted ys → ((x y : K) → In x xs → In y ys → R x y ≡ Less) → Sorted (xs ++ ys)
  Sorted-append [] ys s t f = t
  Sorted-append (x ∷ xs) ys s t f = (
    λ y h. elim (In-append y xs ys h) [ inl l ↦ s.0 y l | inr r ↦ f x y (inl refl) r ],
    Sorted-append xs ys s.1 t (λ a b p q. f a b (inr p) q),
  )

  pub less_from : (x y : K) → is_lt (R x y) ≡ true → R x y ≡ Less
  less_from x y h = by_cases (R x y) h
    where
      by_cases : (r : Ordering) → is_lt r ≡ true → r ≡ Less
      by_cases Less h = refl
      by_cases Equal h = absurd (cc)
      by_cases Greater h = absurd (cc)

  module _ (o : IsTotalOrder R) (same : (x y : K) → R x y ≡ Equal → x ≡ y) where
    pub itself : (x : K) → R x x ≡ Equal
    itself x = by_cases (R x x) (o.antisymm x x)
      where
        by_cases : (r : Ordering) → r ≡ ordering_reverse r → r ≡ Equal
        by_cases Less h = absurd (cc)
        by_cases Equal h = refl
        by_cases Greater h = absurd (cc)

    pub not_below_itself : (x y : K) → x ≡ y → R x y ≡ Less → ⊥
    not_below_itself x y e h = let k : R x y ≡ Equal = subst (λ z. R x z ≡ Equal) e (itself x) in cc

    pub not_both : (x y : K) → R x y ≡ Less → R y x ≡ Less → ⊥
    not_both x y h k = not_below_itself x x refl (o.trans x y x h k)

    -- what is neither below nor the same is above
    pub above_from : (x n : K) → is_lt (R x n) ≡ false → (R x n ≡ Equal → ⊥) → R n x ≡ Less
    above_from x n h k = o.antisymm n x ∙ by_cases (R x n) h k
      where
        by_cases : (r : Ordering) → is_lt r ≡ false → (r ≡ Equal → ⊥) → ordering_reverse r ≡ Less
        by_cases Less h k = absurd (cc)
        by_cases Equal h k = absurd (k refl)
        by_cases Greater h k = refl

    -- what is not below `n` is above what is below `n`
    pub below_past : (x y n : K) → R x n ≡ Less → (R y n ≡ Less → ⊥) → R x y ≡ Less
    below_past x y n h k = elim (R y n) as (λ r. R y n ≡ r → R x y ≡ Less) [
      | Less ↦ λ e. absurd (k e)
      | Equal ↦ λ e. subst (λ z. R x z ≡ Less) (sym (same y n e)) h
      | Greater ↦ λ e. o.trans x n y h (o.antisymm n y ∙ ap ordering_reverse e)
    ] refl

    pub In-front : (n x : K) (xs : List K) → In x (front_below R n xs) → In x xs × (R x n ≡ Less)
    In-front n x [] h = absurd h
    In-front n x (y ∷ ys) h = (elim (is_lt (R y n)) as (λ b. is_lt (R y n) ≡ b → In x (cond b (y ∷ front_below R n ys) []) → In x (y ∷ ys) × (R x n ≡ Less)) [
      | true ↦ λ t k. elim k [
        | inl e ↦ (inl e, subst (λ z. R z n ≡ Less) (sym e) (less_from y n t))
        | inr r ↦ (let i = In-front n x ys r in (inr i.0, i.1))
      ]
      | false ↦ λ t k. absurd k
    ]) refl h

    pub In-rest : (n x : K) (xs : List K) → In x (rest_from R n xs) → In x xs
    In-rest n x [] h = h
    In-rest n x (y ∷ ys) h = (elim (is_lt (R y n)) as (λ b. In x (cond b (rest_from R n ys) (y ∷ ys)) → In x (y ∷ ys)) [
      | true ↦ λ k. inr (In-rest n x ys k)
      | false ↦ λ k. k
    ]) h

    pub in_either : (n x : K) (xs : List K) → In x xs → In x (front_below R n xs) ⊎ In x (rest_from R n xs)
    in_either n x [] h = absurd h
    in_either n x (y ∷ ys) h = (elim (is_lt (R y n)) as (λ b. In x (cond b (y ∷ front_below R n ys) []) ⊎ In x (cond b (rest_from R n ys) (y ∷ ys))) [
      | true ↦ elim h [ inl e ↦ inl (inl e) | inr r ↦ (elim (in_either n x ys r) [ inl l ↦ inl (inr l) | inr k ↦ inr k ]) ]
      | false ↦ inr h
    ])

    pub Sorted-front : (n : K) (xs : List K) → Sorted xs → Sorted (front_below R n xs)
    Sorted-front n [] s = tt
    Sorted-front n (y ∷ ys) s = elim (is_lt (R y n)) as (λ b. Sorted (cond b (y ∷ front_below R n ys) [])) [
      | true ↦ (λ z h. s.0 z (In-front n z ys h).0, Sorted-front n ys s.1)
      | false ↦ tt
    ]

    pub Sorted-rest : (n : K) (xs : List K) → Sorted xs → Sorted (rest_from R n xs)
    Sorted-rest n [] s = tt
    Sorted-rest n (y ∷ ys) s = elim (is_lt (R y n)) as (λ b. Sorted (cond b (rest_from R n ys) (y ∷ ys))) [
      | true ↦ Sorted-rest n ys s.1
      | false ↦ s
    ]

    -- what stands behind the front is not below
    pub rest_not_below : (n x : K) (xs : List K) → Sorted xs → In x (rest_from R n xs) → R x n ≡ Less → ⊥
    rest_not_below n x [] s h k = absurd h
    rest_not_below n x (y ∷ ys) s h k = (elim (is_lt (R y n)) as (λ b. is_lt (R y n) ≡ b → In x (cond b (rest_from R n ys) (y ∷ ys)) → ⊥) [
      | true ↦ λ t i. rest_not_below n x ys s.1 i k
      | false ↦ λ t i. elim i [
        | inl e ↦ (let l : R y n ≡ Less = subst (λ z. R z n ≡ Less) e k in let m : is_lt (R y n) ≡ true = ap is_lt l in cc)
        | inr r ↦ (let l : R y n ≡ Less = o.trans y x n (s.0 x r) k in let m : is_lt (R y n) ≡ true = ap is_lt l in cc)
      ]
    ]) refl h

    pub begins_in : (n : K) (xs : List K) → Sorted xs → In n xs → begins_with R n (rest_from R n xs) ≡ true
    begins_in n [] s h = absurd h
    begins_in n (y ∷ ys) s h = (elim (is_lt (R y n)) as (λ b. is_lt (R y n) ≡ b → begins_with R n (cond b (rest_from R n ys) (y ∷ ys)) ≡ true) [
      | true ↦ λ t. elim h [
        | inl e ↦ absurd (not_below_itself y n (sym e) (less_from y n t))
        | inr r ↦ begins_in n ys s.1 r
      ]
      | false ↦ λ t. elim h [
        | inl e ↦ ap is_eq (subst (λ z. R z n ≡ Equal) e (itself n))
        | inr r ↦ (let m : is_lt (R y n) ≡ true = ap is_lt (s.0 n r) in absurd (cc))
      ]
    ]) refl

    equal_from : (x y : K) → is_eq (R x y) ≡ true → R x y ≡ Equal
    equal_from x y h = by_cases (R x y) h
      where
        by_cases : (r : Ordering) → is_eq r ≡ true → r ≡ Equal
        by_cases Less h = absurd (cc)
        by_cases Equal h = refl
        by_cases Greater h = absurd (cc)

    pub In-begins : (n : K) (xs : List K) → begins_with R n (rest_from R n xs) ≡ true → In n xs
    In-begins n [] h = absurd (cc)
    In-begins n (y ∷ ys) h = (elim (is_lt (R y n)) as (λ b. begins_with R n (cond b (rest_from R n ys) (y ∷ ys)) ≡ true → In n (y ∷ ys)) [
      | true ↦ λ k. inr (In-begins n ys k)
      | false ↦ λ k. inl (sym (same y n (equal_from y n k)))
    ]) h
