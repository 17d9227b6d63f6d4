-- What entries say after one was promoted, put or taken out, and after some were dropped.
use Rattle.std.proofs.Common.{◌≡◌, ℕ, zero, suc, Bool, true, false, cond, refl, sym, ap, ◌∙◌, subst, inl, inr, ◌⊎◌, List, [], ◌∷◌, take, filter, Option, Some, None}
use Rattle.std.specs.Option.{option_map_or}
use Rattle.std.specs.List.{IsDistinct, AllByRecursion}
use Rattle.std.specs.Map.{keys_of, lookup, lookup_entry, remove_entry}
use Rattle.std.specs.Cmp.{IsEquivalence}
use Rattle.std.proofs.lemmas.Map.Keys.{IsDistinct-head, IsDistinct-tail}
use Rattle.lru.specs.LruCache.{promoted}

module _ {K : Type 0} (eq : K → K → Bool) (laws : IsEquivalence eq) where
  alike : (a q : K) → eq a q ≡ true → eq q ≡ eq a
  alike a q e = λ i k. sym (laws.congr a q k e) i

  apart : (a q k : K) → eq a q ≡ false → eq a k ≡ true → eq q k ≡ false
  apart a q k off hit = laws.symm q k ∙ (sym (laws.congr a k q hit) ∙ off)

module _ {K X : Type 0} where
  -- the first entry whose key passes
  first_is : (t : K → Bool) (es : List (K × X)) (e : K × X) → lookup_entry t es ≡ Some e → (t e.0 ≡ true) × (lookup t es ≡ Some e.1)
  first_is t [] e h = cc
  first_is t (f ∷ es) e h = (elim (t f.0) as (λ y. t f.0 ≡ y → (t e.0 ≡ true) × (lookup t (f ∷ es) ≡ Some e.1)) [
    | true ↦ λ y. let h' = rw y at h in let same : f ≡ e = cc in (subst (λ (g : K × X). t g.0 ≡ true) same y, rw y (ap (λ (g : K × X). Some g.1) same))
    | false ↦ λ y. let on = first_is t es e (rw y at h) in (on.0, rw y on.1)
  ]) refl

  taken : (t : K → Bool) (n : ℕ) (es : List (K × X)) (w : X) → lookup t (take n es) ≡ Some w → lookup t es ≡ Some w
  taken t zero es w h = cc
  taken t (suc n) [] w h = h
  taken t (suc n) (e ∷ es) w h = (elim (t e.0) as (λ b. cond b (Some e.1) (lookup t (take n es)) ≡ Some w → cond b (Some e.1) (lookup t es) ≡ Some w) [
    | true ↦ λ g. g
    | false ↦ λ g. taken t n es w g
  ]) h

  -- what is left of a value, by a test of its entry
  abbrev pub left : (K × X → Bool) → K → Option X → Option X
  left p q None = None
  left p q (Some x) = cond (p (q, x)) (Some x) None

  module _ (eq : K → K → Bool) (laws : IsEquivalence eq) where
    -- the entry of another key is taken out
    pub remove_other : (a q : K) → eq a q ≡ false → (es : List (K × X)) → lookup (eq q) (remove_entry (eq a) es) ≡ lookup (eq q) es
    remove_other a q off [] = refl
    remove_other a q off (e ∷ es) = (elim (eq a e.0) as (λ b. eq a e.0 ≡ b → lookup (eq q) (cond b es (e ∷ remove_entry (eq a) es)) ≡ cond (eq q e.0) (Some e.1) (lookup (eq q) es)) [
      | true ↦ λ t. sym (ap (λ b. cond b (Some e.1) (lookup (eq q) es)) (apart eq laws a q e.0 off t))
      | false ↦ λ _. ap (cond (eq q e.0) (Some e.1)) (remove_other a q off es)
    ]) refl

    front : (a q : K) (es : List (K × X)) (e : K × X) → lookup_entry (eq a) es ≡ Some e → lookup (eq q) (e ∷ remove_entry (eq a) es) ≡ lookup (eq q) es
    front a q es e h =
        let is = first_is (eq a) es e h in
        (elim (eq a q) as (λ b. eq a q ≡ b → cond (eq q e.0) (Some e.1) (lookup (eq q) (remove_entry (eq a) es)) ≡ lookup (eq q) es) [
          | true ↦ λ t. ap (λ b. cond b (Some e.1) (lookup (eq q) (remove_entry (eq a) es))) (ap (λ (f : K → Bool). f e.0) (alike eq laws a q t) ∙ is.0) ∙ sym (ap (λ (f : K → Bool). lookup f es) (alike eq laws a q t) ∙ is.1)
          | false ↦ λ f. ap (λ b. cond b (Some e.1) (lookup (eq q) (remove_entry (eq a) es))) (apart eq laws a q e.0 f is.0) ∙ remove_other a q f es
        ]) refl

    -- an entry is promoted
    pub promoted_says : (a q : K) (es : List (K × X)) → lookup (eq q) (promoted (eq a) es) ≡ lookup (eq q) es
    promoted_says a q es = (elim (lookup_entry (eq a) es) as (λ o. lookup_entry (eq a) es ≡ o → lookup (eq q) (option_map_or (λ e. e ∷ remove_entry (eq a) es) o es) ≡ lookup (eq q) es) [
      | None ↦ λ _. refl
      | Some e ↦ λ h. front a q es e h
    ]) refl

    put_by : (a q : K) (x : X) (es : List (K × X)) (n : ℕ) (w : X) (o : Option (K × X)) → lookup_entry (eq a) es ≡ o
        → lookup (eq q) (option_map_or (λ e. (e.0, x) ∷ remove_entry (eq a) es) o ((a, x) ∷ take n es)) ≡ Some w → (lookup (eq q) es ≡ Some w) ⊎ ((eq a q ≡ true) × (w ≡ x))
    put_by a q x es n w None h g = (elim (eq q a) as (λ b. eq q a ≡ b → cond b (Some x) (lookup (eq q) (take n es)) ≡ Some w → (lookup (eq q) es ≡ Some w) ⊎ ((eq a q ≡ true) × (w ≡ x))) [
      | true ↦ λ t k. inr (laws.symm a q ∙ t, cc)
      | false ↦ λ _ k. inl (taken (eq q) n es w k)
    ]) refl g
    put_by a q x es n w (Some e) h g =
        let is = first_is (eq a) es e h in
        (elim (eq a q) as (λ b. eq a q ≡ b → (lookup (eq q) es ≡ Some w) ⊎ ((eq a q ≡ true) × (w ≡ x))) [
          | true ↦ λ t. (
              let here : eq q e.0 ≡ true = ap (λ (f : K → Bool). f e.0) (alike eq laws a q t) ∙ is.0 in
              let k : Some x ≡ Some w = rw here at g in
              inr (t, cc)
              )
          | false ↦ λ f. (
              let away = apart eq laws a q e.0 f is.0 in
              let k : lookup (eq q) (remove_entry (eq a) es) ≡ Some w = rw away at g in
              inl (sym (remove_other a q f es) ∙ k)
              )
        ]) refl

    -- an entry is put
    pub put_says : (a q : K) (x : X) (es : List (K × X)) (n : ℕ) (w : X) → lookup (eq q) (option_map_or (λ e. (e.0, x) ∷ remove_entry (eq a) es) (lookup_entry (eq a) es) ((a, x) ∷ take n es)) ≡ Some w
        → (lookup (eq q) es ≡ Some w) ⊎ ((eq a q ≡ true) × (w ≡ x))
    put_says a q x es n w = put_by a q x es n w (lookup_entry (eq a) es) refl

    none_later : (q : K) (p : K × X → Bool) (es : List (K × X)) → AllByRecursion (λ y. eq q y ≡ false) (keys_of es) → lookup (eq q) (filter p es) ≡ None
    none_later q p [] h = refl
    none_later q p (e ∷ es) h = elim (p e) as (λ b. lookup (eq q) (cond b (e ∷ filter p es) (filter p es)) ≡ None) [
      | true ↦ ap (λ b. cond b (Some e.1) (lookup (eq q) (filter p es))) h.0 ∙ none_later q p es h.1
      | false ↦ none_later q p es h.1
    ]

    -- the entries that fail a test are dropped
    pub kept_says : ((x y : K) → eq x y ≡ true → x ≡ y) → (q : K) (p : K × X → Bool) (es : List (K × X)) → IsDistinct eq (keys_of es) → lookup (eq q) (filter p es) ≡ left p q (lookup (eq q) es)
    kept_says exact q p [] d = refl
    kept_says exact q p (e ∷ es) d = (elim (eq q e.0) as (λ b. eq q e.0 ≡ b → lookup (eq q) (filter p (e ∷ es)) ≡ left p q (cond b (Some e.1) (lookup (eq q) es))) [
      | true ↦ λ t. (
          let same : q ≡ e.0 = exact q e.0 t in
          let tested : p (q, e.1) ≡ p e = ap (λ (k : K). p (k, e.1)) same in
          let later = subst (λ (k : K). AllByRecursion (λ y. eq k y ≡ false) (keys_of es)) (sym same) (IsDistinct-head eq e.0 (keys_of es) d) in
          (elim (p e) as (λ c. p e ≡ c → lookup (eq q) (cond c (e ∷ filter p es) (filter p es)) ≡ cond (p (q, e.1)) (Some e.1) None) [
            | true ↦ λ pe. ap (λ b. cond b (Some e.1) (lookup (eq q) (filter p es))) t ∙ sym (ap (λ b. cond b (Some e.1) None) (tested ∙ pe))
            | false ↦ λ pe. none_later q p es later ∙ sym (ap (λ b. cond b (Some e.1) None) (tested ∙ pe))
          ]) refl
          )
      | false ↦ λ f. elim (p e) as (λ c. lookup (eq q) (cond c (e ∷ filter p es) (filter p es)) ≡ left p q (lookup (eq q) es)) [
        | true ↦ ap (λ b. cond b (Some e.1) (lookup (eq q) (filter p es))) f ∙ kept_says exact q p es (IsDistinct-tail eq e.0 (keys_of es) d)
        | false ↦ kept_says exact q p es (IsDistinct-tail eq e.0 (keys_of es) d)
      ]
    ]) refl
