-- Sums over the values of maps.
use Rattle.std.proofs.Common.{◌≡◌, ℕ, ◌+◌, zero, suc, Bool, true, false, cond, List, [], ◌∷◌, map, refl, ap, sym, ◌∙◌, arith}
use Rattle.std.specs.Prelude.{Option, Some, None, ◌&&◌, ◌||◌, T}
use Rattle.std.specs.List.{list_any}
use Rattle.std.specs.declared.cmp.Ordering.{Ordering}
use Rattle.std.specs.declared.cmp.Ordering.TheVariants.{Less, Equal, Greater}
use Rattle.std.specs.Ordering.{eq_by_cmp, is_eq, is_lt}
use Rattle.std.specs.Cmp.{IsTotalOrder}
use Rattle.std.specs.FinMap.{FinMap, get, insert, remove, entries, entries_sorted, values, is_sorted, find, put, get-entries, entries-insert, get-insert, get-remove, same_map}
use Rattle.std.specs.FinMap.Entries.{below_all, by_order}
use Rattle.std.proofs.lemmas.Cmp.{tied_itself}
use Rattle.std.proofs.lemmas.Map.Lookups.{CmpEqualImpliesEq}
use Rattle.vfs_tree.specs.Counts.{total, optional, above_zero}

less_of : (r : Ordering) → T (is_lt r) → r ≡ Less
less_of Less h = refl
less_of Equal h = absurd h
less_of Greater h = absurd h

equal_of : (r : Ordering) → is_eq r ≡ true → r ≡ Equal
equal_of Less e = cc
equal_of Equal e = refl
equal_of Greater e = cc

left : (b c : Bool) → T (b && c) → T b
left true c h = tt
left false c h = h

right : (b c : Bool) → T (b && c) → T c
right true c h = h
right false c h = absurd h

-- ---- lists

-- whether some pass, by the sum of numbers that are above zero exactly at those
pub any_total : {X : Type 0} (g : X → Bool) (w : X → ℕ) → ((x : X) → g x ≡ above_zero (w x)) → (xs : List X) → list_any g xs ≡ above_zero (total w xs)
any_total g w e [] = refl
any_total g w e (x ∷ xs) = ap (λ b. b || list_any g xs) (e x) ∙ ap (λ b. above_zero (w x) || b) (any_total g w e xs) ∙ either (w x) (total w xs)
  where
    either : (a b : ℕ) → (above_zero a || above_zero b) ≡ above_zero (a + b)
    either zero b = let same : b ≡ 0 + b = omega arith in ap above_zero same
    either (suc a) b = let same : suc (a + b) ≡ suc a + b = omega arith in ap above_zero same

module _ {K X : Type 0} {R : K → K → Ordering} (o : IsTotalOrder R) where
  above : (k x : K) (es : List (K × X)) → R k x ≡ Less → T (below_all R x es) → find R k es ≡ None
  above k x [] less h = refl
  above k x (e ∷ es) less h =
      let next : R k e.0 ≡ Less = o.trans k x e.0 less (less_of _ (left _ _ h)) in
      ap (λ r. cond (is_eq r) (Some e.1) (find R k es)) next ∙ above k x es less (right _ _ h)

  module _ (f : X → ℕ) where
    abbrev listed : List (K × X) → ℕ
    listed es = total f (map (λ e. e.1) es)

    put_total : (k : K) (v : X) (es : List (K × X)) → T (is_sorted R es) → listed (put R k v es) + optional f (find R k es) ≡ listed es + f v
    put_total k v [] h = omega arith
    put_total k v (e ∷ es) h =
        elim (R k e.0) as (λ r. R k e.0 ≡ r → listed (by_order r ((k, v) ∷ e ∷ es) ((e.0, v) ∷ es) (e ∷ put R k v es)) + optional f (cond (is_eq r) (Some e.1) (find R k es)) ≡ (f e.1 + listed es) + f v) [
          | Less ↦ λ less. let none : optional f (find R k es) ≡ 0 = ap (optional f) (above k e.0 es less (left _ _ h)) in omega (arith, none)
          | Equal ↦ λ _. omega arith
          | Greater ↦ λ _. let rest : listed (put R k v es) + optional f (find R k es) ≡ listed es + f v = put_total k v es (right _ _ h) in omega (arith, rest)
        ] refl

    -- a value put at a key takes the place of the one that was there
    pub total-insert : (m : FinMap R X) (k : K) (v : X) → total f (values (insert m k v)) + optional f (get m k) ≡ total f (values m) + f v
    total-insert m k v =
        (λ i. listed (entries-insert o m k v i) + optional f (get-entries m k i)) ∙ put_total k v (entries m) (entries_sorted m)

    module _ (exact : CmpEqualImpliesEq R) where
      back_at : (m : FinMap R X) (k q : K) (x : Option X) → get m k ≡ x → (b : Bool) → eq_by_cmp R q k ≡ b → cond b x (cond b None (get m q)) ≡ get m q
      back_at m k q x is true e = sym is ∙ ap (get m) (sym (exact q k (equal_of _ e)))
      back_at m k q x is false e = refl

      gone_at : (m : FinMap R X) (k : K) → get (remove m k) k ≡ None
      gone_at m k = get-remove o m k k ∙ ap (λ r. cond (is_eq r) None (get m k)) (tied_itself o k)

      taken : (m : FinMap R X) (k : K) (x : Option X) → get m k ≡ x → total f (values (remove m k)) + optional f x ≡ total f (values m)
      taken m k (Some v) is =
          let back : insert (remove m k) k v ≡ m = same_map o exact _ _ (λ q.
          get-insert o (remove m k) k v q ∙ ap (cond (eq_by_cmp R q k) (Some v)) (get-remove o m k q) ∙ back_at m k q (Some v) is (eq_by_cmp R q k) refl) in
          let sum : total f (values (insert (remove m k) k v)) + optional f (get (remove m k) k) ≡ total f (values (remove m k)) + f v = total-insert (remove m k) k v in
          let none : optional f (get (remove m k) k) ≡ 0 = ap (optional f) (gone_at m k) in
          let same : total f (values (insert (remove m k) k v)) ≡ total f (values m) = ap (λ n. total f (values n)) back in
          omega (arith, sum, none, same)
      taken m k None is =
          let back : remove m k ≡ m = same_map o exact _ _ (λ q. get-remove o m k q ∙ sym (none_at q (eq_by_cmp R q k) refl)) in
          let same : total f (values (remove m k)) ≡ total f (values m) = ap (λ n. total f (values n)) back in
          omega (arith, same)
        where
          none_at : (q : K) (b : Bool) → eq_by_cmp R q k ≡ b → get m q ≡ cond b None (get m q)
          none_at q true e = ap (get m) (exact q k (equal_of _ e)) ∙ is
          none_at q false e = refl

      -- a value that is taken away
      pub total-remove : (m : FinMap R X) (k : K) → total f (values (remove m k)) + optional f (get m k) ≡ total f (values m)
      total-remove m k = taken m k (get m k) refl

      find_none : (k : K) (es : List (K × X)) → T (below_all R k es) → (q : K) → eq_by_cmp R q k ≡ true → find R q es ≡ None
      find_none k es h q e = ap (λ x. find R x es) (exact q k (equal_of _ e)) ∙ behind es h
        where
          behind : (es : List (K × X)) → T (below_all R k es) → find R k es ≡ None
          behind [] h = refl
          behind (e ∷ es) h = ap (λ r. cond (is_eq r) (Some e.1) (find R k es)) (less_of _ (left _ _ h)) ∙ behind es (right _ _ h)

      zero_listed : (es : List (K × X)) → T (is_sorted R es) → ((q : K) → optional f (find R q es) ≡ 0) → listed es ≡ 0
      zero_listed [] h none = refl
      zero_listed (e ∷ es) h none =
          let here : f e.1 ≡ 0 = sym (ap (λ r. optional f (cond (is_eq r) (Some e.1) (find R e.0 es))) (tied_itself o e.0)) ∙ none e.0 in
          let rest : listed es ≡ 0 = zero_listed es (right _ _ h) (λ q. later q (eq_by_cmp R q e.0) refl) in
          omega (arith, here, rest)
        where
          later : (q : K) (b : Bool) → eq_by_cmp R q e.0 ≡ b → optional f (find R q es) ≡ 0
          later q true eq = ap (optional f) (find_none e.0 es (left _ _ h) q eq)
          later q false eq = sym (ap (λ b. optional f (cond b (Some e.1) (find R q es))) eq) ∙ none q

      -- values that each count for nothing
      pub total-zero : (m : FinMap R X) → ((q : K) → optional f (get m q) ≡ 0) → total f (values m) ≡ 0
      total-zero m none = zero_listed (entries m) (entries_sorted m) (λ q. ap (optional f) (sym (get-entries m q)) ∙ none q)
