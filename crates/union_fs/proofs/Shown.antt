-- What a union shows, name by name of the lower layer.
use Rattle.std.proofs.Common.{◌≡◌, Bool, true, false, refl, sym, subst, inl, inr, ◌⊎◌, List, [], ◌∷◌, ◌++◌}
use Rattle.std.specs.declared.cmp.Ordering.{Ordering}
use Rattle.std.specs.declared.cmp.Ordering.TheVariants.{Less, Equal}
use Rattle.std.specs.Ordering.{is_lt}
use Rattle.std.specs.Cmp.{IsTotalOrder}
use Rattle.union_fs.specs.Names.{front_below, rest_from, begins_with}
use Rattle.union_fs.proofs.Orders.{In, In-append, in_left, in_right, Sorted, Sorted-append, less_from, below_past, not_both, above_from, In-front, In-rest, in_either, Sorted-front, Sorted-rest, rest_not_below, begins_in, In-begins}

-- the name, unless the upper layer or a whiteout has it
abbrev pub kept : {K : Type 0} → Bool → Bool → K → List K
kept false false n = n ∷ []
kept false true n = []
kept true b n = []

In-kept : {K : Type 0} (x n : K) (a b : Bool) → In x (kept a b n) → (a ≡ false) × (b ≡ false) × (x ≡ n)
In-kept x n false false h = elim h [ inl e ↦ (refl, refl, e) | inr k ↦ absurd k ]
In-kept x n false true h = absurd h
In-kept x n true b h = absurd h

in_kept : {K : Type 0} (n : K) (a b : Bool) → a ≡ false → b ≡ false → In n (kept a b n)
in_kept n false false h k = inl refl
in_kept n false true h k = absurd (cc)
in_kept n true b h k = absurd (cc)

module _ {K : Type 0} (R : K → K → Ordering) where
  Sorted-kept : (n : K) (a b : Bool) → Sorted R (kept a b n)
  Sorted-kept n false false = (λ y h. absurd h, tt)
  Sorted-kept n false true = tt
  Sorted-kept n true b = tt

  -- the names from the lists that are left
  abbrev pub visible : List K → List K → List K → List K
  visible upper white [] = upper
  visible upper white (n ∷ lower) = front_below R n upper ++ kept (begins_with R n (rest_from R n upper)) (begins_with R n (rest_from R n white)) n ++ visible (rest_from R n upper) (rest_from R n white) lower

  -- a name of the upper list, or one of the lower list that stands in neither other
  abbrev pub Shows : List K → List K → List K → K → Type 0
  Shows upper white lower x = In x upper ⊎ (In x lower × (In x upper → ⊥) × (In x white → ⊥))

  module _ (o : IsTotalOrder R) (same : (x y : K) → R x y ≡ Equal → x ≡ y) where
    -- nothing of a list that is above stood in the front
    not_hidden : (n x : K) (xs : List K) → R n x ≡ Less → (In x (rest_from R n xs) → ⊥) → In x xs → ⊥
    not_hidden n x xs above none h = elim (in_either R o same n x xs h) [
      | inl l ↦ not_both R o same n x above (In-front R o same n x xs l).1
      | inr r ↦ none r
    ]

    pub shown_only : (upper white lower : List K) → Sorted R upper → Sorted R white → Sorted R lower → (x : K) → In x (visible upper white lower) → Shows upper white lower x
    shown_only upper white [] su sw sl x h = inl h
    shown_only upper white (n ∷ lower) su sw sl x h =
        let ru = rest_from R n upper in
        let rw' = rest_from R n white in
        elim (In-append x (front_below R n upper ++ kept (begins_with R n ru) (begins_with R n rw') n) (visible ru rw' lower) h) [
          | inl l ↦ (elim (In-append x (front_below R n upper) (kept (begins_with R n ru) (begins_with R n rw') n) l) [
            | inl f ↦ inl (In-front R o same n x upper f).0
            | inr k ↦ (
                let p = In-kept x n (begins_with R n ru) (begins_with R n rw') k in
                let a : begins_with R n ru ≡ false = p.0 in
                let b : begins_with R n rw' ≡ false = p.1 in
                inr (
                  inl p.2,
                  λ i. (let t : begins_with R n ru ≡ true = begins_in R o same n upper su (subst (λ z. In z upper) p.2 i) in cc),
                  λ i. (let t : begins_with R n rw' ≡ true = begins_in R o same n white sw (subst (λ z. In z white) p.2 i) in cc),
                )
                )
          ])
          | inr r ↦ (elim (shown_only ru rw' lower (Sorted-rest R o same n upper su) (Sorted-rest R o same n white sw) sl.1 x r) [
            | inl u ↦ inl (In-rest R o same n x upper u)
            | inr p ↦ inr (inr p.0, not_hidden n x upper (sl.0 x p.0) p.1, not_hidden n x white (sl.0 x p.0) p.2)
          ])
        ]

    false_from : (b : Bool) → (b ≡ true → ⊥) → b ≡ false
    false_from true f = absurd (f refl)
    false_from false f = refl

    pub shown_all : (upper white lower : List K) → Sorted R upper → Sorted R white → Sorted R lower → (x : K) → Shows upper white lower x → In x (visible upper white lower)
    shown_all upper white [] su sw sl x (inl h) = h
    shown_all upper white [] su sw sl x (inr p) = absurd p.0
    shown_all upper white (n ∷ lower) su sw sl x (inl h) =
        let ru = rest_from R n upper in
        let rw' = rest_from R n white in
        let k = kept (begins_with R n ru) (begins_with R n rw') n in
        elim (in_either R o same n x upper h) [
          | inl f ↦ in_left x (front_below R n upper ++ k) (visible ru rw' lower) (in_left x (front_below R n upper) k f)
          | inr r ↦ in_right x (front_below R n upper ++ k) (visible ru rw' lower) (shown_all ru rw' lower (Sorted-rest R o same n upper su) (Sorted-rest R o same n white sw) sl.1 x (inl r))
        ]
    shown_all upper white (n ∷ lower) su sw sl x (inr p) =
        let ru = rest_from R n upper in
        let rw' = rest_from R n white in
        let k = kept (begins_with R n ru) (begins_with R n rw') n in
        elim p.0 [
          | inl e ↦ (
              let a : begins_with R n ru ≡ false = false_from (begins_with R n ru) (λ t. p.1 (subst (λ z. In z upper) (sym e) (In-begins R o same n upper t))) in
              let b : begins_with R n rw' ≡ false = false_from (begins_with R n rw') (λ t. p.2 (subst (λ z. In z white) (sym e) (In-begins R o same n white t))) in
              in_left x (front_below R n upper ++ k) (visible ru rw' lower) (in_right x (front_below R n upper) k (subst (λ z. In z k) (sym e) (in_kept n (begins_with R n ru) (begins_with R n rw') a b)))
              )
          | inr r ↦ in_right x (front_below R n upper ++ k) (visible ru rw' lower) (shown_all ru rw' lower (Sorted-rest R o same n upper su) (Sorted-rest R o same n white sw) sl.1 x (inr (r, λ i. p.1 (In-rest R o same n x upper i), λ i. p.2 (In-rest R o same n x white i))))
        ]

    pub Sorted-visible : (upper white lower : List K) → Sorted R upper → Sorted R white → Sorted R lower → Sorted R (visible upper white lower)
    Sorted-visible upper white [] su sw sl = su
    Sorted-visible upper white (n ∷ lower) su sw sl =
        let ru = rest_from R n upper in
        let rw' = rest_from R n white in
        let a = begins_with R n ru in
        let b = begins_with R n rw' in
        let front = front_below R n upper in
        let sru = Sorted-rest R o same n upper su in
        let srw = Sorted-rest R o same n white sw in
        -- what comes later is `n` or above it
        let later : (y : K) → In y (visible ru rw' lower) → (In y ru) ⊎ (R n y ≡ Less) = λ y h. elim (shown_only ru rw' lower sru srw sl.1 y h) [ inl u ↦ inl u | inr p ↦ inr (sl.0 y p.0) ] in
        let not_below : (y : K) → In y ru → R y n ≡ Less → ⊥ = λ y h. rest_not_below R o same n y upper su h in
        let over : (y : K) → (In n upper → ⊥) → In y ru → R n y ≡ Less = λ y none h. above_from R o same y n (false_from (is_lt (R y n)) (λ t. not_below y h (less_from R y n t))) (λ e. none (subst (λ z. In z upper) (same y n e) (In-rest R o same n y upper h))) in
        Sorted-append R (front ++ kept a b n) (visible ru rw' lower)
        (Sorted-append R front (kept a b n) (Sorted-front R o same n upper su) (Sorted-kept n a b) (λ x y h k. subst (λ z. R x z ≡ Less) (sym (In-kept y n a b k).2) (In-front R o same n x upper h).1))
        (Sorted-visible ru rw' lower sru srw sl.1)
        (λ x y h k. elim (In-append x front (kept a b n) h) [
          | inl f ↦ (
              let xn : R x n ≡ Less = (In-front R o same n x upper f).1 in
              elim (later y k) [
                | inl u ↦ below_past R o same x y n xn (not_below y u)
                | inr l ↦ o.trans x n y xn l
              ]
              )
          | inr c ↦ (
              let p = In-kept x n a b c in
              let none : In n upper → ⊥ = λ i. (let t : a ≡ true = begins_in R o same n upper su i in let f : a ≡ false = p.0 in cc) in
              subst (λ z. R z y ≡ Less) (sym p.2) (elim (later y k) [ inl u ↦ over y none u | inr l ↦ l ])
              )
        ])
