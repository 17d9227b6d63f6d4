-- What the values of a map's entries weigh together.
use Rattle.std.proofs.Common.{◌≡◌, ℕ, ◌+◌, ◌≤◌, ◌<◌, Bool, true, false, cond, ◌&&◌, T, List, [], ◌∷◌, map, refl, ap, sym, ◌∙◌, subst, arith, is_eq, is_lt}
use Rattle.std.specs.Prelude.{Some, None}
use Rattle.std.specs.declared.cmp.Ordering.{Ordering}
use Rattle.std.specs.declared.cmp.Ordering.TheVariants.{Less, Equal, Greater}
use Rattle.std.specs.Ordering.{eq_by_cmp, ordering_reverse}
use Rattle.std.specs.FinMap.{FinMap, get, insert, remove, entries, from_entries, put, find, is_sorted, entries-insert, entries_sorted, get-entries, get-insert, get-remove, same_map}
use Rattle.std.specs.FinMap.Entries.{by_order, below_all}
use Rattle.std.specs.Cmp.{IsTotalOrder}
use Rattle.std.specs.List.{AllByRecursion}
use Rattle.std.proofs.lemmas.Cmp.{tied_itself}
use Rattle.std.proofs.lemmas.Map.Lookups.{CmpEqualImpliesEq}
use Rattle.call_model.specs.Effects.{each}
use Rattle.finite_maps.proofs.EntryLaws.{entries-empty}

-- the sum of what the values weigh
abbrev pub weigh : {K X : Type 0} → (X → ℕ) → List (K × X) → ℕ
weigh f [] = 0
weigh f (e ∷ es) = f e.1 + weigh f es

-- ---- orders and tests

pub equal : (r : Ordering) → is_eq r ≡ true → r ≡ Equal
equal Less e = cc
equal Equal e = refl
equal Greater e = cc

less : (r : Ordering) → T (is_lt r) → r ≡ Less
less Less h = refl
less Equal h = absurd h
less Greater h = absurd h

front : (a b : Bool) → T (a && b) → T a
front true b h = tt
front false b h = h

back : (a b : Bool) → T (a && b) → T b
back true b h = h
back false b h = absurd h

missed : {K X : Type 0} (R : K → K → Ordering) → IsTotalOrder R → (k y : K) (es : List (K × X)) → R k y ≡ Less → T (below_all R y es) → find R k es ≡ None
missed R o k y [] p h = refl
missed R o k y (e ∷ es) p h =
    ap (λ r. cond (is_eq r) (Some e.1) (find R k es)) (o.trans k y e.0 p (less (R y e.0) (front _ _ h))) ∙ missed R o k y es p (back _ _ h)

-- ---- lists of entries

-- a value that is put adds at most what it weighs
weigh-put : {K X : Type 0} (R : K → K → Ordering) (f : X → ℕ) (k : K) (v : X) (es : List (K × X)) → weigh f (put R k v es) ≤ f v + weigh f es
weigh-put R f k v [] = omega arith
weigh-put R f k v (e ∷ es) =
    let rest = weigh-put R f k v es in
    elim (R k e.0) as (λ r. weigh f (by_order r ((k, v) ∷ e ∷ es) ((e.0, v) ∷ es) (e ∷ put R k v es)) ≤ f v + (f e.1 + weigh f es)) [
      | Less ↦ omega arith
      | Equal ↦ omega arith
      | Greater ↦ omega arith
    ]

-- at a key that is new it adds just that
weigh-new : {K X : Type 0} (R : K → K → Ordering) (f : X → ℕ) (k : K) (v : X) (es : List (K × X)) → find R k es ≡ None → weigh f (put R k v es) ≡ f v + weigh f es
weigh-new R f k v [] none = refl
weigh-new R f k v (e ∷ es) none =
    elim (R k e.0) as (λ r. cond (is_eq r) (Some e.1) (find R k es) ≡ None → weigh f (by_order r ((k, v) ∷ e ∷ es) ((e.0, v) ∷ es) (e ∷ put R k v es)) ≡ f v + (f e.1 + weigh f es)) [
      | Less ↦ λ n. refl
      | Equal ↦ λ n. cc
      | Greater ↦ λ n. let rest = weigh-new R f k v es n in omega arith
    ] none

-- at a key that is there it takes the place of the value there
weigh-there : {K X : Type 0} (R : K → K → Ordering) → IsTotalOrder R → (f : X → ℕ) (k : K) (u v : X) (es : List (K × X)) → T (is_sorted R es) → find R k es ≡ Some u → weigh f (put R k v es) + f u ≡ weigh f es + f v
weigh-there R o f k u v [] h is = cc
weigh-there R o f k u v (e ∷ es) h is =
    elim (R k e.0) as (λ r. R k e.0 ≡ r → cond (is_eq r) (Some e.1) (find R k es) ≡ Some u → weigh f (by_order r ((k, v) ∷ e ∷ es) ((e.0, v) ∷ es) (e ∷ put R k v es)) + f u ≡ (f e.1 + weigh f es) + f v) [
      | Less ↦ λ p i. let none = missed R o k e.0 es p (front _ _ h) in absurd cc
      | Equal ↦ λ p i. let same : e.1 ≡ u = cc in let same_weight = ap f same in omega arith
      | Greater ↦ λ p i. let rest : weigh f (put R k v es) + f u ≡ weigh f es + f v = weigh-there R o f k u v es (back (below_all R e.0 es) (is_sorted R es) h) i in omega arith
    ] refl is

-- values that weigh no more weigh no more together
pub weigh-le : {K X : Type 0} (f g : X → ℕ) → ((x : X) → f x ≤ g x) → (es : List (K × X)) → weigh f es ≤ weigh g es
weigh-le f g h [] = omega arith
weigh-le f g h (e ∷ es) = let rest = weigh-le f g h es in let here = h e.1 in omega arith

-- and less where one of them weighs less
weigh-lt : {K X : Type 0} (R : K → K → Ordering) (f g : X → ℕ) → ((x : X) → f x ≤ g x) → (k : K) (u : X) → f u < g u → (es : List (K × X)) → find R k es ≡ Some u → weigh f es < weigh g es
weigh-lt R f g h k u lighter [] is = cc
weigh-lt R f g h k u lighter (e ∷ es) is =
    let here = h e.1 in
    let all = weigh-le f g h es in
    elim (eq_by_cmp R k e.0) as (λ b. cond b (Some e.1) (find R k es) ≡ Some u → f e.1 + weigh f es < g e.1 + weigh g es) [
      | true ↦ λ i. let same : u ≡ e.1 = cc in let at : f e.1 < g e.1 = subst (λ x. f x < g x) same lighter in omega arith
      | false ↦ λ i. let rest = weigh-lt R f g h k u lighter es i in omega arith
    ] is

-- ---- each value changed

weigh-changed : {K X : Type 0} (f : X → ℕ) (g : X → X) (es : List (K × X)) → weigh f (map (λ e. (e.0, g e.1)) es) ≡ weigh (λ x. f (g x)) es
weigh-changed f g [] = refl
weigh-changed f g (e ∷ es) = ap (λ n. f (g e.1) + n) (weigh-changed f g es)

put_first : {K X : Type 0} (R : K → K → Ordering) (g : X → X) (k : K) (v : X) (es : List (K × X)) → T (below_all R k es) → put R k v (map (λ e. (e.0, g e.1)) es) ≡ (k, v) ∷ map (λ e. (e.0, g e.1)) es
put_first R g k v [] h = refl
put_first {K = K} {X = X} R g k v (e ∷ es) h =
    let rest : List (K × X) = map (λ e. (e.0, g e.1)) es in
    ap (λ r. by_order r ((k, v) ∷ (e.0, g e.1) ∷ rest) ((e.0, v) ∷ rest) ((e.0, g e.1) ∷ put R k v rest)) (less (R k e.0) (front _ _ h))

entries_changed : {K X : Type 0} (R : K → K → Ordering) → IsTotalOrder R → (g : X → X) (es : List (K × X)) → T (is_sorted R es) → entries (from_entries {R = R} (map (λ e. (e.0, g e.1)) es)) ≡ map (λ e. (e.0, g e.1)) es
entries_changed R o g [] h = entries-empty R
entries_changed R o g (e ∷ es) h =
    entries-insert o (from_entries (map (λ e. (e.0, g e.1)) es)) e.0 (g e.1)
    ∙ ap (put R e.0 (g e.1)) (entries_changed R o g es (back _ _ h))
    ∙ put_first R g e.0 (g e.1) es (front _ _ h)

-- ---- maps

-- nothing stands at a key that is removed
pub get_at-remove : {K X : Type 0} {R : K → K → Ordering} → IsTotalOrder R → (m : FinMap R X) (k : K) → get (remove m k) k ≡ None
get_at-remove o m k = get-remove o m k k ∙ ap (λ r. cond (is_eq r) None (get m k)) (tied_itself o k)

module _ {K X : Type 0} (R : K → K → Ordering) (o : IsTotalOrder R) (f : X → ℕ) (m : FinMap R X) where
  pub weigh-insert : (k : K) (v : X) → weigh f (entries (insert m k v)) ≤ f v + weigh f (entries m)
  weigh-insert k v = subst (λ es. weigh f es ≤ f v + weigh f (entries m)) (sym (entries-insert o m k v)) (weigh-put R f k v (entries m))

  pub weigh-replaced : (k : K) (u v : X) → get m k ≡ Some u → weigh f (entries (insert m k v)) + f u ≡ weigh f (entries m) + f v
  weigh-replaced k u v is =
      ap (λ es. weigh f es + f u) (entries-insert o m k v) ∙ weigh-there R o f k u v (entries m) (entries_sorted m) (sym (get-entries m k) ∙ is)

  put_back : CmpEqualImpliesEq R → (k : K) (u : X) → get m k ≡ Some u → insert (remove m k) k u ≡ m
  put_back exact k u is = same_map o exact _ _ (λ q.
      get-insert o (remove m k) k u q ∙ ap (cond (eq_by_cmp R q k) (Some u)) (get-remove o m k q)
      ∙ elim (eq_by_cmp R q k) as (λ b. eq_by_cmp R q k ≡ b → cond b (Some u) (cond b None (get m q)) ≡ get m q) [
        | true ↦ λ e. sym is ∙ ap (get m) (sym (exact q k (equal _ e)))
        | false ↦ λ e. refl
      ] refl)

  pub weigh-removed : CmpEqualImpliesEq R → (k : K) (u : X) → get m k ≡ Some u → f u + weigh f (entries (remove m k)) ≡ weigh f (entries m)
  weigh-removed exact k u is =
      sym (ap (weigh f) (entries-insert o (remove m k) k u) ∙ weigh-new R f k u (entries (remove m k)) (sym (get-entries (remove m k) k) ∙ get_at-remove o m k))
      ∙ ap (λ x. weigh f (entries x)) (put_back exact k u is)

  pub weigh-each : (g : X → X) → weigh f (entries (each g m)) ≡ weigh (λ x. f (g x)) (entries m)
  weigh-each g = ap (weigh f) (entries_changed R o g (entries m) (entries_sorted m)) ∙ weigh-changed f g (entries m)

  pub weigh-lighter : (h : X → ℕ) → ((x : X) → f x ≤ h x) → (k : K) (u : X) → f u < h u → get m k ≡ Some u → weigh f (entries m) < weigh h (entries m)
  weigh-lighter h le k u lt is = weigh-lt R f h le k u lt (entries m) (sym (get-entries m k) ∙ is)

-- ---- entries are found

-- each entry of some is found among others
abbrev pub AreFound : {K X : Type 0} → (K → K → Ordering) → List (K × X) → List (K × X) → Type 0
AreFound R all some = AllByRecursion (λ e. find R e.0 all ≡ Some e.1) some

above : (r s : Ordering) → r ≡ ordering_reverse s → s ≡ Less → is_eq r ≡ false
above r s e l = ap is_eq (e ∙ ap ordering_reverse l)

found_behind : {K X : Type 0} (R : K → K → Ordering) → IsTotalOrder R → (e : K × X) (all some : List (K × X)) → T (below_all R e.0 some) → AreFound R all some → AreFound R (e ∷ all) some
found_behind R o e all [] h found = tt
found_behind R o e all (x ∷ xs) h found = (
  ap (λ b. cond b (Some e.1) (find R x.0 all)) (above (R x.0 e.0) (R e.0 x.0) (o.antisymm x.0 e.0) (less _ (front _ _ h))) ∙ found.0,
  found_behind R o e all xs (back _ _ h) found.1,
)

all_found : {K X : Type 0} (R : K → K → Ordering) → IsTotalOrder R → (es : List (K × X)) → T (is_sorted R es) → AreFound R es es
all_found R o [] h = tt
all_found R o (e ∷ es) h =
    (ap (λ r. cond (is_eq r) (Some e.1) (find R e.0 es)) (tied_itself o e.0), found_behind R o e es es (front _ _ h) (all_found R o es (back _ _ h)))

given : {K X : Type 0} (R : K → K → Ordering) (m : FinMap R X) (some : List (K × X)) → AreFound R (entries m) some → AllByRecursion (λ e. get m e.0 ≡ Some e.1) some
given R m [] h = tt
given R m (e ∷ es) h = (get-entries m e.0 ∙ h.0, given R m es h.1)

-- each entry of a map is what the map has at its key
pub all_given : {K X : Type 0} (R : K → K → Ordering) → IsTotalOrder R → (m : FinMap R X) → AllByRecursion (λ e. get m e.0 ≡ Some e.1) (entries m)
all_given R o m = given R m (entries m) (all_found R o (entries m) (entries_sorted m))
