-- Values of a map changed one after the other, by the index of their entry.
use Rattle.std.specs.declared.cmp.Ordering.{Ordering}
use Rattle.std.specs.declared.cmp.Ordering.TheVariants.{Less, Equal, Greater}
use Rattle.std.proofs.Common.{◌≡◌, ℕ, zero, suc, ◌+◌, Bool, true, false, cond, List, [], ◌∷◌, map, length, refl, ap, sym, ◌∙◌, add-one, T}
use Rattle.std.specs.Prelude.{Option, Some, None, IsSome, is_some, option_map, ◌&&◌}
use Rattle.std.specs.Cmp.{IsTotalOrder}
use Rattle.std.specs.Ordering.{is_eq, is_lt, ordering_reverse, eq_by_cmp}
use Rattle.std.specs.FinMap.{FinMap, get, insert, entries, from_entries, find, put, is_sorted, entries_sorted, entries-insert, get-entries, get-from_entries, get-insert, len, len-entries, same_map}
use Rattle.std.specs.FinMap.Entries.{by_order, below_all}
use Rattle.std.proofs.lemmas.Cmp.{tied_itself}
use Rattle.std.proofs.lemmas.Map.Lookups.{CmpEqualImpliesEq}
use Rattle.finite_maps.proofs.EntryLaws.{insert_same}
use Rattle.call_model.specs.Effects.{each}
use Rattle.plain_effects.specs.Entries.{key_at, changed_at, changed_key}

-- the entries with the first values changed
abbrev pub changed_to : {K X : Type 0} → ℕ → (X → X) → List (K × X) → List (K × X)
changed_to zero f es = es
changed_to (suc i) f [] = []
changed_to (suc i) f (e ∷ es) = (e.0, f e.1) ∷ changed_to i f es

next_changed : {K X : Type 0} (i : ℕ) (f : X → X) (es : List (K × X)) → changed_at i f (changed_to i f es) ≡ changed_to (suc i) f es
next_changed zero f [] = refl
next_changed zero f (e ∷ es) = refl
next_changed (suc i) f [] = refl
next_changed (suc i) f (e ∷ es) = ap (λ ds. (e.0, f e.1) ∷ ds) (next_changed i f es)

-- one more
pub more_changed : {K X : Type 0} (i : ℕ) (f : X → X) (es bs cs : List (K × X)) → bs ≡ changed_to i f es → cs ≡ changed_at i f bs → cs ≡ changed_to (i + 1) f es
more_changed i f es bs cs b c = c ∙ ap (changed_at i f) b ∙ next_changed i f es ∙ ap (λ j. changed_to j f es) (sym (add-one i))

all_changed : {K X : Type 0} (f : X → X) (es : List (K × X)) → changed_to (length es) f es ≡ map (λ e. (e.0, f e.1)) es
all_changed f [] = refl
all_changed f (e ∷ es) = ap (λ ds. (e.0, f e.1) ∷ ds) (all_changed f es)

none_changed : {K X : Type 0} (i : ℕ) (f : X → X) (es : List (K × X)) → None ≡ key_at es i → changed_at i f es ≡ es
none_changed i f [] e = refl
none_changed zero f (d ∷ es) e = absurd (cc)
none_changed (suc i) f (d ∷ es) e = ap (λ ds. d ∷ ds) (none_changed i f es e)

less : (r : Ordering) → T (is_lt r) → r ≡ Less
less Less h = refl
less Equal h = absurd h
less Greater h = absurd h

first : (a b : Bool) → T (a && b) → T a
first true b h = tt
first false b h = h

second : (a b : Bool) → T (a && b) → T b
second true b h = h
second false b h = absurd h

module _ {K X : Type 0} {R : K → K → Ordering} (o : IsTotalOrder R) where
  above : (x k : K) (es : List (K × X)) (i : ℕ) → T (below_all R x es) → Some k ≡ key_at es i → R x k ≡ Less
  above x k [] i h at = absurd (cc)
  above x k (e ∷ es) zero h at = let same : k ≡ e.0 = cc in ap (R x) same ∙ less _ (first _ _ h)
  above x k (e ∷ es) (suc i) h at = above x k es i (second _ _ h) at

  after : (x k : K) (es : List (K × X)) (i : ℕ) → T (below_all R x es) → Some k ≡ key_at es i → R k x ≡ Greater
  after x k es i h at = o.antisymm k x ∙ ap ordering_reverse (above x k es i h at)

  -- to put a value at the key of an index is to change it there
  put_at : (es : List (K × X)) (i : ℕ) (k : K) (v u : X) (f : X → X) → T (is_sorted R es) → Some k ≡ key_at es i → Some v ≡ find R k es → u ≡ f v → put R k u es ≡ changed_at i f es
  put_at [] i k v u f h at was is = absurd (cc)
  put_at (e ∷ es) zero k v u f h at was is =
      let same : k ≡ e.0 = cc in
      let tied : R k e.0 ≡ Equal = ap (λ x. R x e.0) same ∙ tied_itself o e.0 in
      let here : Some v ≡ Some e.1 = was ∙ ap (λ r. cond (is_eq r) (Some e.1) (find R k es)) tied in
      let value : v ≡ e.1 = cc in
      ap (λ r. by_order r ((k, u) ∷ e ∷ es) ((e.0, u) ∷ es) (e ∷ put R k u es)) tied ∙ ap (λ w. (e.0, w) ∷ es) (is ∙ ap f value)
  put_at (e ∷ es) (suc i) k v u f h at was is =
      let later : R k e.0 ≡ Greater = after e.0 k es i (first _ _ h) at in
      let there : Some v ≡ find R k es = was ∙ ap (λ r. cond (is_eq r) (Some e.1) (find R k es)) later in
      ap (λ r. by_order r ((k, u) ∷ e ∷ es) ((e.0, u) ∷ es) (e ∷ put R k u es)) later ∙ ap (λ ds. e ∷ ds) (put_at es i k v u f (second _ _ h) at there is)

  found_at : (es : List (K × X)) (i : ℕ) (k : K) → T (is_sorted R es) → Some k ≡ key_at es i → None ≡ find R k es → ⊥
  found_at [] i k h at none = cc
  found_at (e ∷ es) zero k h at none =
      let same : k ≡ e.0 = cc in
      let tied : R k e.0 ≡ Equal = ap (λ x. R x e.0) same ∙ tied_itself o e.0 in
      let here : None ≡ Some e.1 = none ∙ ap (λ r. cond (is_eq r) (Some e.1) (find R k es)) tied in
      cc
  found_at (e ∷ es) (suc i) k h at none =
      let later : R k e.0 ≡ Greater = after e.0 k es i (first _ _ h) at in
      found_at es i k (second _ _ h) at (none ∙ ap (λ r. cond (is_eq r) (Some e.1) (find R k es)) later)

  -- the value at the key of an index was lent and changed
  pub lent_at : (m n : FinMap R X) (i : ℕ) (k : K) (v u : X) (f : X → X) → Some k ≡ key_at (entries m) i → Some v ≡ get m k → (IsSome (get m k) → n ≡ insert m k u) → u ≡ f v → entries n ≡ changed_at i f (entries m)
  lent_at m n i k v u f at was put is =
      ap (λ x. entries x) (put (ap is_some (sym was))) ∙ entries-insert o m k u ∙ put_at (entries m) i k v u f (entries_sorted m) at (was ∙ get-entries m k) is

  -- a key of the map is found in it
  pub not_at : (m n : FinMap R X) (i : ℕ) (k : K) (f : X → X) → Some k ≡ key_at (entries m) i → None ≡ get m k → entries n ≡ changed_at i f (entries m)
  not_at m n i k f at none = absurd (found_at (entries m) i k (entries_sorted m) at (none ∙ get-entries m k))

  -- no entry has the index
  pub past : (m : FinMap R X) (i : ℕ) (f : X → X) → None ≡ key_at (entries m) i → entries m ≡ changed_at i f (entries m)
  past m i f none = sym (none_changed i f (entries m) none)

  -- the entries of a map make it
  pub made_again : CmpEqualImpliesEq R → (m : FinMap R X) → from_entries (entries m) ≡ m
  made_again exact m = same_map o exact _ _ (λ q. get-from_entries o (entries m) q ∙ sym (get-entries m q))

  -- with each value changed
  pub all_of : CmpEqualImpliesEq R → (m n : FinMap R X) (f : X → X) → entries n ≡ changed_to (len m) f (entries m) → n ≡ each f m
  all_of exact m n f is =
      sym (made_again exact n) ∙ ap from_entries (is ∙ ap (λ i. changed_to i f (entries m)) (len-entries m) ∙ all_changed f (entries m))

  find_each : (f : X → X) (es : List (K × X)) (q : K) → find R q (map (λ e. (e.0, f e.1)) es) ≡ option_map f (find R q es)
  find_each f [] q = refl
  find_each f (e ∷ es) q =
      elim (eq_by_cmp R q e.0) as (λ b. cond b (Some (f e.1)) (find R q (map (λ d. (d.0, f d.1)) es)) ≡ option_map f (cond b (Some e.1) (find R q es))) [ true ↦ refl | false ↦ find_each f es q ]

  -- what stands at a key where each value is changed
  pub get_each : (f : X → X) (m : FinMap R X) (q : K) → get (each f m) q ≡ option_map f (get m q)
  get_each f m q = get-from_entries o (map (λ e. (e.0, f e.1)) (entries m)) q ∙ find_each f (entries m) q ∙ ap (option_map f) (sym (get-entries m q))

  over_key : (b : Bool) (f : X → X) (y u : X) (r : Option X) → cond b (Some u) (option_map f (cond b (Some y) r)) ≡ cond b (Some u) (option_map f r)
  over_key true f y u r = refl
  over_key false f y u r = refl

  -- the value at a key was another while each was changed
  pub given_back : CmpEqualImpliesEq R → (f : X → X) (m : FinMap R X) (k : K) (v y u : X) → Some v ≡ get m k → u ≡ f v → insert (each f (insert m k y)) k u ≡ each f m
  given_back exact f m k v y u was is =
      same_map o exact _ _ (λ q.
      get-insert o (each f (insert m k y)) k u q ∙ ap (cond (eq_by_cmp R q k) (Some u)) (get_each f (insert m k y) q ∙ ap (option_map f) (get-insert o m k y q))
      ∙ over_key (eq_by_cmp R q k) f y u (get m q) ∙ ap (cond (eq_by_cmp R q k) (Some u)) (sym (get_each f m q)) ∙ sym (get-insert o (each f m) k u q))
      ∙ insert_same o exact (each f m) k u (get_each f m k ∙ ap (option_map f) (sym was) ∙ ap Some (sym is))

  key_case : (m : FinMap R X) (i : ℕ) (k : K) (f : X → X) (r : Option X) → r ≡ get m k → Some k ≡ key_at (entries m) i → entries (changed_key f m k r) ≡ changed_at i f (entries m)
  key_case m i k f (Some v) was at = lent_at m (insert m k (f v)) i k v (f v) f at was (λ _. refl) refl
  key_case m i k f None was at = not_at m m i k f at was

  -- the value at the key of an index is changed
  pub key_changed : (m : FinMap R X) (i : ℕ) (k : K) (f : X → X) → Some k ≡ key_at (entries m) i → entries (changed_key f m k (get m k)) ≡ changed_at i f (entries m)
  key_changed m i k f at = key_case m i k f (get m k) refl at
