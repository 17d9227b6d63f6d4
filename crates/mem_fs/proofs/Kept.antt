-- What a function keeps of a map, after edits of the map.
use Rattle.std.proofs.Common.{◌≡◌, ℕ, Bool, true, false, cond, List, [], ◌∷◌, refl, ap, sym, ◌∙◌}
use Rattle.std.specs.Prelude.{Option, Some, None, option_map, option_and_then, ◌&&◌, T}
use Rattle.std.specs.List.{filter_map, cons_option}
use Rattle.std.specs.declared.cmp.Ordering.{Ordering}
use Rattle.std.specs.declared.cmp.Ordering.TheVariants.{Less, Equal, Greater}
use Rattle.std.specs.Ordering.{nat_cmp, eq_by_cmp, is_eq, is_lt}
use Rattle.std.specs.Cmp.{nat_cmp_total}
use Rattle.std.specs.FinMap.{FinMap, get, insert, remove, entries, entries_sorted, is_sorted, find, get-entries, get-from_entries, get-insert, get-remove, same_map}
use Rattle.std.specs.FinMap.Entries.{below_all}
use Rattle.std.proofs.lemmas.Map.Lookups.{exact_unsigned}
use Rattle.mem_fs.specs.Inodes.{with_value, edited, with_new, kept_entry, kept}

tied : (r : Ordering) → is_eq r ≡ true → r ≡ Equal
tied Less e = cc
tied Equal e = refl
tied Greater e = cc

-- two numbers that tie are equal
pub same_number : (q a : ℕ) → eq_by_cmp nat_cmp q a ≡ true → q ≡ a
same_number q a e = exact_unsigned q a (tied _ e)

-- ---- an edit of a value, number by number

module _ {A : Type 0} where
  at_some : (f : A → A) (m : FinMap nat_cmp A) (a q : ℕ) (o : Option A) → get m a ≡ o → (b : Bool) → eq_by_cmp nat_cmp q a ≡ b → get (with_value f m a o) q ≡ cond b (option_map f (get m q)) (get m q)
  at_some f m a q (Some x) is true e =
      let at : get m q ≡ Some x = ap (get m) (same_number q a e) ∙ is in
      get-insert nat_cmp_total m a (f x) q ∙ ap (λ b. cond b (Some (f x)) (get m q)) e ∙ sym (ap (option_map f) at)
  at_some f m a q (Some x) is false e = get-insert nat_cmp_total m a (f x) q ∙ ap (λ b. cond b (Some (f x)) (get m q)) e
  at_some f m a q None is true e =
      let at : get m q ≡ None = ap (get m) (same_number q a e) ∙ is in
      at ∙ sym (ap (option_map f) at)
  at_some f m a q None is false e = refl

  pub get-edited : (f : A → A) (m : FinMap nat_cmp A) (a q : ℕ) → get (edited f m a) q ≡ cond (eq_by_cmp nat_cmp q a) (option_map f (get m q)) (get m q)
  get-edited f m a q = at_some f m a q (get m a) refl (eq_by_cmp nat_cmp q a) refl

-- ---- look-ups in what is kept

module _ {A B : Type 0} (f : A → Option B) where
  behind : (x : ℕ) (es : List (ℕ × A)) → T (below_all nat_cmp x es) → find nat_cmp x es ≡ None
  behind x [] h = refl
  behind x (e ∷ es) h =
      elim (nat_cmp x e.0) as (λ r. T (is_lt r && below_all nat_cmp x es) → cond (is_eq r) (Some e.1) (find nat_cmp x es) ≡ None) [
        | Less ↦ λ t. behind x es t
        | Equal ↦ λ t. absurd t
        | Greater ↦ λ t. absurd t
      ] h

  below_first : (b c : Bool) → T (b && c) → T b
  below_first true c h = tt
  below_first false c h = h

  rest_sorted : (b c : Bool) → T (b && c) → T c
  rest_sorted true c h = h
  rest_sorted false c h = absurd h

  step : (q : ℕ) (e : ℕ × A) (es : List (ℕ × A)) (rest : List (ℕ × B)) → find nat_cmp q rest ≡ option_and_then f (find nat_cmp q es) → (eq_by_cmp nat_cmp q e.0 ≡ true → find nat_cmp q es ≡ None)
      → (b : Bool) (o : Option B) → eq_by_cmp nat_cmp q e.0 ≡ b → f e.1 ≡ o
      → find nat_cmp q (cons_option (option_map (λ y. (e.0, y)) o) rest) ≡ option_and_then f (cond b (Some e.1) (find nat_cmp q es))
  step q e es rest so none true (Some y) eq is = ap (λ b. cond b (Some y) (find nat_cmp q rest)) eq ∙ sym is
  step q e es rest so none true None eq is = so ∙ ap (option_and_then f) (none eq) ∙ sym is
  step q e es rest so none false (Some y) eq is = ap (λ b. cond b (Some y) (find nat_cmp q rest)) eq ∙ so
  step q e es rest so none false None eq is = so

  find_kept : (q : ℕ) (es : List (ℕ × A)) → T (is_sorted nat_cmp es) → find nat_cmp q (filter_map (kept_entry f) es) ≡ option_and_then f (find nat_cmp q es)
  find_kept q [] h = refl
  find_kept q (e ∷ es) h =
      step q e es (filter_map (kept_entry f) es) (find_kept q es (rest_sorted _ _ h))
      (λ eq. ap (λ x. find nat_cmp x es) (same_number q e.0 eq) ∙ behind e.0 es (below_first _ _ h))
      (eq_by_cmp nat_cmp q e.0) (f e.1) refl refl

  pub get-kept : (m : FinMap nat_cmp A) (q : ℕ) → get (kept f m) q ≡ option_and_then f (get m q)
  unfolding kept
  get-kept m q =
      get-from_entries nat_cmp_total (filter_map (kept_entry f) (entries m)) q ∙ find_kept q (entries m) (entries_sorted m) ∙ ap (option_and_then f) (sym (get-entries m q))

  -- ---- edits

  both : (g : A → A) (h : B → B) → ((x : A) → f (g x) ≡ option_map h (f x)) → (b : Bool) (o : Option A) → option_and_then f (cond b (option_map g o) o) ≡ cond b (option_map h (option_and_then f o)) (option_and_then f o)
  both g h e true (Some x) = e x
  both g h e true None = refl
  both g h e false o = refl

  -- an edit that changes what is kept of a value
  pub kept-edited : (g : A → A) (h : B → B) (m : FinMap nat_cmp A) (k : ℕ) → ((x : A) → f (g x) ≡ option_map h (f x)) → kept f (edited g m k) ≡ edited h (kept f m) k
  kept-edited g h m k e = same_map nat_cmp_total exact_unsigned _ _ (λ q.
      get-kept (edited g m k) q ∙ ap (option_and_then f) (get-edited g m k q) ∙ both g h e (eq_by_cmp nat_cmp q k) (get m q)
      ∙ sym (get-edited h (kept f m) k q ∙ ap (λ o. cond (eq_by_cmp nat_cmp q k) (option_map h o) o) (get-kept m q)))

  alike : (g : A → A) → ((x : A) → f (g x) ≡ f x) → (b : Bool) (o : Option A) → option_and_then f (cond b (option_map g o) o) ≡ option_and_then f o
  alike g e true (Some x) = e x
  alike g e true None = refl
  alike g e false o = refl

  -- an edit that leaves what is kept
  pub kept-same : (g : A → A) (m : FinMap nat_cmp A) (k : ℕ) → ((x : A) → f (g x) ≡ f x) → kept f (edited g m k) ≡ kept f m
  kept-same g m k e = same_map nat_cmp_total exact_unsigned _ _ (λ q.
      get-kept (edited g m k) q ∙ ap (option_and_then f) (get-edited g m k q) ∙ alike g e (eq_by_cmp nat_cmp q k) (get m q) ∙ sym (get-kept m q))

  one_more : (o : Option B) (m : FinMap nat_cmp A) (k : ℕ) (x : A) → get m k ≡ None → f x ≡ o → (b : Bool) (q : ℕ) → eq_by_cmp nat_cmp q k ≡ b → option_and_then f (cond b (Some x) (get m q)) ≡ get (with_new o (kept f m) k) q
  one_more (Some y) m k x none is true q e = is ∙ sym (get-insert nat_cmp_total (kept f m) k y q ∙ ap (λ b. cond b (Some y) (get (kept f m) q)) e)
  one_more (Some y) m k x none is false q e = sym (get-kept m q) ∙ sym (get-insert nat_cmp_total (kept f m) k y q ∙ ap (λ b. cond b (Some y) (get (kept f m) q)) e)
  one_more None m k x none is true q e = is ∙ sym (get-kept m q ∙ ap (option_and_then f) (ap (get m) (same_number q k e) ∙ none))
  one_more None m k x none is false q e = sym (get-kept m q)

  -- a new value
  pub kept-insert : (m : FinMap nat_cmp A) (k : ℕ) (x : A) → get m k ≡ None → kept f (insert m k x) ≡ with_new (f x) (kept f m) k
  kept-insert m k x none = same_map nat_cmp_total exact_unsigned _ _ (λ q.
      get-kept (insert m k x) q ∙ ap (option_and_then f) (get-insert nat_cmp_total m k x q) ∙ one_more (f x) m k x none refl (eq_by_cmp nat_cmp q k) q refl)

  gone : (b : Bool) (o : Option A) → option_and_then f (cond b None o) ≡ cond b None (option_and_then f o)
  gone true o = refl
  gone false o = refl

  -- a value that is taken away
  pub kept-remove : (m : FinMap nat_cmp A) (k : ℕ) → kept f (remove m k) ≡ remove (kept f m) k
  kept-remove m k = same_map nat_cmp_total exact_unsigned _ _ (λ q.
      get-kept (remove m k) q ∙ ap (option_and_then f) (get-remove nat_cmp_total m k q) ∙ gone (eq_by_cmp nat_cmp q k) (get m q)
      ∙ sym (get-remove nat_cmp_total (kept f m) k q ∙ ap (cond (eq_by_cmp nat_cmp q k) None) (get-kept m q)))
