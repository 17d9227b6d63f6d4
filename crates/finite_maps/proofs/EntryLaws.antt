-- A `BTreeMap`'s entries as a finite map.
use Rattle.std.specs.declared.cmp.Ordering.{Ordering}
use Rattle.std.proofs.Common.{◌≡◌, Bool, true, false, cond, List, [], ◌∷◌, refl, ap, sym, ◌∙◌, subst, length, arith}
use Rattle.std.specs.Prelude.{Option, Some, None}
use Rattle.std.specs.Map.{lookup, keys_of}
use Rattle.std.specs.List.{AllByRecursion}
use Rattle.std.specs.List.Sorted.{IsStrictlySortedBy}
use Rattle.std.specs.FinMap.{empty, entries, put, entries-insert, len-entries, len-empty}
use Rattle.std.specs.FinMap.Entries.{by_order}
use Rattle.std.specs.BTreeMap.{is_at}
use Rattle.std.specs.Cmp.{IsTotalOrder, eq_by_cmp_equiv, nat_cmp_total}
use Rattle.std.specs.Ordering.{nat_cmp, eq_by_cmp, is_eq}
use Rattle.std.specs.declared.cmp.Ordering.TheVariants.{Less, Equal, Greater}
use Rattle.std.specs.FinMap.{FinMap, get, insert, remove, from_entries, find, get-from_entries, get-insert, get-remove, same_map}
use Rattle.std.proofs.lemmas.Cmp.{on_total, then_total, tied_itself}
use Rattle.std.proofs.lemmas.Map.Lookups.{CmpEqualImpliesEq, exact_pairs, exact_unsigned}
use Rattle.finite_maps.specs.Keys.{pair_cmp}

pub pair_total : IsTotalOrder pair_cmp
pair_total = then_total (on_total (λ p. p.0) nat_cmp_total) (on_total (λ p. p.1) nat_cmp_total)

pub pair_exact : CmpEqualImpliesEq pair_cmp
pair_exact = exact_pairs nat_cmp nat_cmp exact_unsigned exact_unsigned

no_length : {A : Type 0} (es : List A) → length es ≡ 0 → es ≡ []
no_length [] e = refl
no_length (x ∷ es) e = absurd (omega (arith, e))

pub entries-empty : {K X : Type 0} (R : K → K → Ordering) → entries (empty {X = X} {R = R}) ≡ []
entries-empty {X = X} R = no_length _ (sym (len-entries empty) ∙ len-empty R X)

equal : (r : Ordering) → is_eq r ≡ true → r ≡ Equal
equal Less e = cc
equal Equal e = refl
equal Greater e = cc

twice : {A : Type 0} (b : Bool) (x y z : A) → cond b x (cond b y z) ≡ cond b x z
twice true x y z = refl
twice false x y z = refl

-- the entries of a list, each put in turn
abbrev pub put_all : {K X : Type 0} {R : K → K → Ordering} → FinMap R X → List (K × X) → FinMap R X
put_all m [] = m
put_all m (e ∷ es) = put_all (insert m e.0 e.1) es

swapped : {A : Type 0} (a b : Bool) (x y z : A) → (a ≡ true → b ≡ true → ⊥) → cond a x (cond b y z) ≡ cond b y (cond a x z)
swapped true true x y z h = absurd (h refl refl)
swapped true false x y z h = refl
swapped false true x y z h = refl
swapped false false x y z h = refl

module _ {K X : Type 0} {R : K → K → Ordering} (o : IsTotalOrder R) where
  find_lookup : (es : List (K × X)) (q : K) → find R q es ≡ lookup (is_at (R q)) es
  find_lookup [] q = refl
  find_lookup (e ∷ es) q = ap (cond (is_at (R q) e.0) (Some e.1)) (find_lookup es q)

  -- what the finite map of the entries has at a key
  pub get_given : (es : List (K × X)) (q : K) → get (from_entries {R = R} es) q ≡ lookup (is_at (R q)) es
  get_given es q = get-from_entries o es q ∙ find_lookup es q

  -- entries that differ by v at k
  pub insert_given : CmpEqualImpliesEq R → (es fs : List (K × X)) (k : K) (v : X) → ((q : K) → lookup (is_at (R q)) fs ≡ cond (is_at (R k) q) (Some v) (lookup (is_at (R q)) es)) → from_entries {R = R} fs ≡ insert (from_entries es) k v
  insert_given exact es fs k v h = same_map o exact _ _ (λ q.
      get_given fs q ∙ h q ∙ ap (λ b. cond b (Some v) (lookup (is_at (R q)) es)) ((eq_by_cmp_equiv o).symm k q)
      ∙ sym (get-insert o (from_entries es) k v q ∙ ap (cond (is_at (R q) k) (Some v)) (get_given es q)))

  -- entries that differ by the absence of k
  pub remove_given : CmpEqualImpliesEq R → (es fs : List (K × X)) (k : K) → ((q : K) → lookup (is_at (R q)) fs ≡ cond (is_at (R k) q) None (lookup (is_at (R q)) es)) → from_entries {R = R} fs ≡ remove (from_entries es) k
  remove_given exact es fs k h = same_map o exact _ _ (λ q.
      get_given fs q ∙ h q ∙ ap (λ b. cond b None (lookup (is_at (R q)) es)) ((eq_by_cmp_equiv o).symm k q)
      ∙ sym (get-remove o (from_entries es) k q ∙ ap (cond (is_at (R q) k) None) (get_given es q)))

  -- by cases on a test of the key
  at_key : CmpEqualImpliesEq R → (q k : K) (f : Bool → Option X) (y : Option X) → (q ≡ k → f true ≡ y) → f false ≡ y → f (eq_by_cmp R q k) ≡ y
  at_key exact q k f y same other =
      elim (eq_by_cmp R q k) as (λ b. eq_by_cmp R q k ≡ b → f b ≡ y) [ true ↦ λ e. same (exact q k (equal _ e)) | false ↦ λ e. other ] refl

  -- of two values at one key the later stays
  pub insert-insert : CmpEqualImpliesEq R → (m : FinMap R X) (k : K) (v w : X) → insert (insert m k v) k w ≡ insert m k w
  insert-insert exact m k v w = same_map o exact _ _ (λ q.
      get-insert o (insert m k v) k w q ∙ ap (cond (eq_by_cmp R q k) (Some w)) (get-insert o m k v q)
      ∙ twice (eq_by_cmp R q k) (Some w) (Some v) (get m q) ∙ sym (get-insert o m k w q))

  -- an entry that is put where none was and taken away again
  pub remove-insert : CmpEqualImpliesEq R → (m : FinMap R X) (k : K) (v : X) → get m k ≡ None → remove (insert m k v) k ≡ m
  remove-insert exact m k v none = same_map o exact _ _ (λ q.
      get-remove o (insert m k v) k q ∙ ap (cond (eq_by_cmp R q k) None) (get-insert o m k v q)
      ∙ at_key exact q k (λ b. cond b None (cond b (Some v) (get m q))) (get m q) (λ e. sym (ap (get m) e ∙ none)) refl)

  -- a value that is put where it stands already
  pub insert_same : CmpEqualImpliesEq R → (m : FinMap R X) (k : K) (v : X) → get m k ≡ Some v → insert m k v ≡ m
  insert_same exact m k v is = same_map o exact _ _ (λ q.
      get-insert o m k v q ∙ at_key exact q k (λ b. cond b (Some v) (get m q)) (get m q) (λ e. sym (ap (get m) e ∙ is)) refl)

  -- what stands at the key itself, and at another one
  pub get_at-insert : (m : FinMap R X) (k : K) (v : X) → get (insert m k v) k ≡ Some v
  get_at-insert m k v = get-insert o m k v k ∙ ap (λ r. cond (is_eq r) (Some v) (get m k)) (tied_itself o k)

  -- what stands at q after an insert, by cases
  pub by_key : CmpEqualImpliesEq R → (m : FinMap R X) (k : K) (v : X) (q : K) (P : Option X → Type 0) → (q ≡ k → P (Some v)) → P (get m q) → P (get (insert m k v) q)
  by_key exact m k v q P here there = subst P (sym (get-insert o m k v q))
      (elim (eq_by_cmp R q k) as (λ b. eq_by_cmp R q k ≡ b → P (cond b (Some v) (get m q))) [ true ↦ λ e. here (exact q k (equal _ e)) | false ↦ λ _. there ] refl)

  put_first : (k : K) (v : X) (es : List (K × X)) → AllByRecursion (λ y. R k y ≡ Less) (keys_of es) → put R k v es ≡ (k, v) ∷ es
  put_first k v [] h = refl
  put_first k v (e ∷ es) h = ap (λ r. by_order r ((k, v) ∷ e ∷ es) ((e.0, v) ∷ es) (e ∷ put R k v es)) h.0

  -- entries in order are those of their finite map
  pub entries_given : (es : List (K × X)) → IsStrictlySortedBy R (keys_of es) → entries (from_entries {R = R} es) ≡ es
  unfolding IsStrictlySortedBy
  entries_given [] h = entries-empty R
  entries_given (e ∷ es) h = entries-insert o (from_entries es) e.0 e.1 ∙ ap (put R e.0 e.1) (entries_given es h.1) ∙ put_first e.0 e.1 es h.0

  -- inserts at two keys in either order
  insert-swap : CmpEqualImpliesEq R → (m : FinMap R X) (j k : K) (v w : X) → R j k ≡ Less → insert (insert m j v) k w ≡ insert (insert m k w) j v
  insert-swap exact m j k v w less = same_map o exact _ _ (λ q.
      get-insert o (insert m j v) k w q ∙ ap (cond (eq_by_cmp R q k) (Some w)) (get-insert o m j v q)
      ∙ swapped (eq_by_cmp R q k) (eq_by_cmp R q j) (Some w) (Some v) (get m q) (λ p r. apart q p r)
      ∙ sym (get-insert o (insert m k w) j v q ∙ ap (cond (eq_by_cmp R q j) (Some v)) (get-insert o m k w q)))
    where
      apart : (q : K) → eq_by_cmp R q k ≡ true → eq_by_cmp R q j ≡ true → ⊥
      apart q p r =
          let at_k : q ≡ k = exact q k (equal _ p) in
          let at_j : q ≡ j = exact q j (equal _ r) in
          let same : R j k ≡ Equal = subst (λ x. R x k ≡ Equal) at_j (equal _ p) in
          cc

  pushed_first : CmpEqualImpliesEq R → (m : FinMap R X) (k : K) (v : X) (es : List (K × X)) → AllByRecursion (λ y. R k y ≡ Less) (keys_of es) → put_all (insert m k v) es ≡ insert (put_all m es) k v
  pushed_first exact m k v [] h = refl
  pushed_first exact m k v (e ∷ es) h =
      ap (λ x. put_all x es) (insert-swap exact m k e.0 v e.1 h.0) ∙ pushed_first exact (insert m e.0 e.1) k v es h.1

  -- entries in order, each put in turn, are their finite map
  pub put_all-empty : CmpEqualImpliesEq R → (es : List (K × X)) → IsStrictlySortedBy R (keys_of es) → put_all empty es ≡ from_entries {R = R} es
  unfolding IsStrictlySortedBy
  put_all-empty exact [] h = refl
  put_all-empty exact (e ∷ es) h = pushed_first exact empty e.0 e.1 es h.0 ∙ ap (λ x. insert x e.0 e.1) (put_all-empty exact es h.1)
