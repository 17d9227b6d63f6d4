-- Turning every entry once, from the last to the first, drops those that fail a test and keeps the order of the others.
use Rattle.std.proofs.Common.{◌≡◌, ℕ, zero, suc, ◌+◌, ◌-◌, ◌<◌, ◌≤◌, Bool, true, false, cond, not, refl, sym, ap, ◌∙◌, subst, List, [], ◌∷◌, ◌++◌, length, take, drop, filter, Some, None, arith, append_assoc}
use Rattle.std.specs.Option.{option_map_or}
use Rattle.std.specs.List.{IsDistinct, AllByRecursion, list_any, slice_get}
use Rattle.std.specs.Map.{keys_of, lookup_entry, remove_entry}
use Rattle.std.specs.Cmp.{IsEquivalence}
use Rattle.std.proofs.lemmas.List.{append-nil, take_all, drop_all}
use Rattle.std.proofs.lemmas.Map.Keys.{IsDistinct-head, IsDistinct-tail}
use Rattle.lru.specs.LruCache.{promoted, last_entry}
use Rattle.op_vector.specs.declared.data.Vid.{Vid}
use Rattle.name_cache.specs.Entries.{Place, Entry, spares, spared, turned}

one_more : {X : Type 0} (f g : X) (es : List X) → length (f ∷ g ∷ es) - 1 ≡ suc (length (g ∷ es) - 1)
one_more f g es = omega arith

module _ {K X : Type 0} (eq : K → K → Bool) (laws : IsEquivalence eq) where
  at_apart : (k : K) (es : List (K × X)) (i : ℕ) (e : K × X) → AllByRecursion (λ y. eq k y ≡ false) (keys_of es) → slice_get es i ≡ Some e → eq k e.0 ≡ false
  at_apart k [] i e h g = cc
  at_apart k (f ∷ es) zero e h g = let same : f ≡ e = cc in subst (λ (x : K × X). eq k x.0 ≡ false) same h.0
  at_apart k (f ∷ es) (suc i) e h g = at_apart k es i e h.1 g

  -- the last entry is found by its key, since no other has that key
  last_found : (es : List (K × X)) (e : K × X) → IsDistinct eq (keys_of es) → slice_get es (length es - 1) ≡ Some e
      → (lookup_entry (eq e.0) es ≡ Some e) × (remove_entry (eq e.0) es ≡ take (length es - 1) es)
  last_found [] e d h = cc
  last_found (f ∷ []) e d h =
      let same : f ≡ e = cc in
      let hit : eq e.0 f.0 ≡ true = subst (λ (x : K × X). eq e.0 x.0 ≡ true) (sym same) (laws.refl e.0) in
      (ap (λ b. cond b (Some f) None) hit ∙ ap (λ (x : K × X). Some x) same, ap (λ b. cond b [] (f ∷ [])) hit)
  last_found (f ∷ g ∷ es) e d h =
      let n : length (f ∷ g ∷ es) - 1 ≡ suc (length (g ∷ es) - 1) = one_more f g es in
      let at : slice_get (g ∷ es) (length (g ∷ es) - 1) ≡ Some e = subst (λ i. slice_get (f ∷ g ∷ es) i ≡ Some e) n h in
      let on = last_found (g ∷ es) e (IsDistinct-tail eq f.0 (keys_of (g ∷ es)) d) at in
      let far : eq e.0 f.0 ≡ false = laws.symm e.0 f.0 ∙ at_apart f.0 (g ∷ es) (length (g ∷ es) - 1) e (IsDistinct-head eq f.0 (keys_of (g ∷ es)) d) at in (
        ap (λ b. cond b (Some f) (lookup_entry (eq e.0) (g ∷ es))) far ∙ on.0,
        ap (λ b. cond b (g ∷ es) (f ∷ remove_entry (eq e.0) (g ∷ es))) far ∙ (ap (λ l. f ∷ l) on.1 ∙ sym (ap (λ i. take i (f ∷ g ∷ es)) n)),
      )

  promoted_last : (es : List (K × X)) (e : K × X) → IsDistinct eq (keys_of es) → slice_get es (length es - 1) ≡ Some e → promoted (eq e.0) es ≡ e ∷ take (length es - 1) es
  promoted_last es e d h =
      let found = last_found es e d h in
      ap (λ o. option_map_or (λ f. f ∷ remove_entry (eq e.0) es) o es) found.0 ∙ ap (λ l. e ∷ l) found.1

none_last : {X : Type 0} (es : List X) → slice_get es (length es - 1) ≡ None → take (length es - 1) es ≡ es
none_last [] h = refl
none_last (f ∷ []) h = cc
none_last (f ∷ g ∷ es) h =
    let n : length (f ∷ g ∷ es) - 1 ≡ suc (length (g ∷ es) - 1) = one_more f g es in
    ap (λ i. take i (f ∷ g ∷ es)) n ∙ ap (λ l. f ∷ l) (none_last (g ∷ es) (subst (λ i. slice_get (f ∷ g ∷ es) i ≡ None) n h))

module _ (eq : Place → Place → Bool) (laws : IsEquivalence eq) (vid : Vid) where
  -- the last entry is spared
  pub turned_kept : (es : List Entry) (k : Place) → IsDistinct eq (keys_of es) → Some k ≡ spared vid (last_entry es) → promoted (eq k) es ≡ turned (spares vid) es
  turned_kept es k d h = (elim (last_entry es) as (λ o. last_entry es ≡ o → Some k ≡ spared vid o → promoted (eq k) es ≡ option_map_or (λ e. cond (spares vid e) (e ∷ take (length es - 1) es) (take (length es - 1) es)) o es) [
    | None ↦ λ _ g. cc
    | Some e ↦ λ l g. (elim (spares vid e) as (λ b. Some k ≡ cond b (Some e.0) None → promoted (eq k) es ≡ cond b (e ∷ take (length es - 1) es) (take (length es - 1) es)) [
      | true ↦ λ j. (let same : k ≡ e.0 = cc in ap (λ (x : Place). promoted (eq x) es) same ∙ promoted_last eq laws es e d l)
      | false ↦ λ j. cc
    ]) g
  ]) refl h

-- the last entry isn't spared, or there is none
pub turned_dropped : (vid : Vid) (es : List Entry) → None ≡ spared vid (last_entry es) → take (length es - 1) es ≡ turned (spares vid) es
turned_dropped vid es h = (elim (last_entry es) as (λ o. last_entry es ≡ o → None ≡ spared vid o → take (length es - 1) es ≡ option_map_or (λ e. cond (spares vid e) (e ∷ take (length es - 1) es) (take (length es - 1) es)) o es) [
  | None ↦ λ l _. none_last es l
  | Some e ↦ λ l g. (elim (spares vid e) as (λ b. None ≡ cond b (Some e.0) None → take (length es - 1) es ≡ cond b (e ∷ take (length es - 1) es) (take (length es - 1) es)) [
    | true ↦ λ j. cc
    | false ↦ λ j. refl
  ]) g
]) refl h

at_split : {X : Type 0} (es : List X) (m : ℕ) → m < length es → (e : X) × (take (suc m) es ≡ take m es ++ e ∷ []) × (drop m es ≡ e ∷ drop (suc m) es)
at_split [] m h = absurd (omega arith)
at_split (f ∷ es) zero h = (f, refl, refl)
at_split (f ∷ es) (suc m) h = let on = at_split es m (omega arith) in (on.0, ap (λ l. f ∷ l) on.1, on.2)

last_of : {X : Type 0} (xs : List X) (e : X) → (slice_get (xs ++ e ∷ []) (length xs) ≡ Some e) × (take (length xs) (xs ++ e ∷ []) ≡ xs) × (length (xs ++ e ∷ []) - 1 ≡ length xs)
last_of [] e = (refl, refl, refl)
last_of (x ∷ xs) e =
    let on = last_of xs e in
    let n : length (x ∷ xs ++ e ∷ []) - 1 ≡ length (x ∷ xs) = omega (arith, length_one xs e) in
    (on.0, ap (λ l. x ∷ l) on.1, n)
  where
    length_one : {X : Type 0} (xs : List X) (e : X) → length (xs ++ e ∷ []) ≡ length xs + 1
    length_one [] e = refl
    length_one (x ∷ xs) e = let k = length_one xs e in omega arith

module _ (p : Entry → Bool) where
  turned_at : (xs : List Entry) (e : Entry) → turned p (xs ++ e ∷ []) ≡ cond (p e) (e ∷ xs) xs
  turned_at xs e =
      let is = last_of xs e in
      let last : last_entry (xs ++ e ∷ []) ≡ Some e = subst (λ i. slice_get (xs ++ e ∷ []) i ≡ Some e) (sym is.2) is.0 in
      let rest : take (length (xs ++ e ∷ []) - 1) (xs ++ e ∷ []) ≡ xs = ap (λ i. take i (xs ++ e ∷ [])) is.2 ∙ is.1 in
      ap (λ o. option_map_or (λ f. cond (p f) (f ∷ take (length (xs ++ e ∷ []) - 1) (xs ++ e ∷ [])) (take (length (xs ++ e ∷ []) - 1) (xs ++ e ∷ []))) o (xs ++ e ∷ [])) last ∙ ap (λ l. cond (p e) (e ∷ l) l) rest

  -- the entries when `most` of them are left to turn
  abbrev pub turning : List Entry → ℕ → List Entry
  turning es most = filter p (drop most es) ++ take most es

  turning_one : (es : List Entry) (m : ℕ) → m < length es → turned p (turning es (suc m)) ≡ turning es m
  turning_one es m le =
      let at = at_split es m le in
      let kept : List Entry = filter p (drop (suc m) es) in
      ap (λ l. turned p (kept ++ l)) at.1
      ∙ (ap (turned p) (sym (append_assoc kept (take m es) (at.0 ∷ [])))
      ∙ (turned_at (kept ++ take m es) at.0
      ∙ (elim (p at.0) as (λ b. cond b (at.0 ∷ (kept ++ take m es)) (kept ++ take m es) ≡ cond b (at.0 ∷ kept) kept ++ take m es) [ true ↦ refl | false ↦ refl ]
      ∙ ap (λ l. filter p l ++ take m es) (sym at.2))))

  pub turning_more : (es now new : List Entry) (i n : ℕ) → n ≡ length es → i < n → now ≡ turning es (n - i) → new ≡ turned p now → new ≡ turning es (n - (i + 1))
  turning_more es now new i n len le h g =
      let m : n - i ≡ suc (n - (i + 1)) = omega arith in
      g ∙ (ap (turned p) (h ∙ ap (turning es) m) ∙ turning_one es (n - (i + 1)) (omega arith))

  pub turning_none : (es : List Entry) (n : ℕ) → n ≡ length es → es ≡ turning es (n - 0)
  turning_none es n len =
      let all : n - 0 ≡ n = omega arith in
      let gone : drop n es ≡ [] = drop_all n es (omega arith) in
      sym (ap (turning es) all ∙ (ap (λ l. filter p l ++ take n es) gone ∙ take_all n es (omega arith)))

  pub turning_all : (es now : List Entry) (i n : ℕ) → n ≤ i → now ≡ turning es (n - i) → now ≡ filter p es
  turning_all es now i n le h =
      let none : n - i ≡ 0 = omega arith in
      h ∙ (ap (turning es) none ∙ append-nil (filter p es))

  -- nothing fails the test
  pub filter_all : (es : List Entry) → false ≡ list_any (λ e. not (p e)) es → filter p es ≡ es
  filter_all [] h = refl
  filter_all (e ∷ es) h = (elim (p e) as (λ b. false ≡ list_any (λ x. not (p x)) (e ∷ es) → p e ≡ b → filter p (e ∷ es) ≡ e ∷ es) [
    | true ↦ λ g t. (let g' = rw t at g in rw t (ap (λ l. e ∷ l) (filter_all es g')))
    | false ↦ λ g t. (let g' = rw t at g in cc)
  ]) h refl
