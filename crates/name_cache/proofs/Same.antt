-- Two keys are equal by their rows where they have one directory and one name.
use Rattle.std.proofs.Common.{◌≡◌, ◌≢◌, ℕ, suc, IsSome, Bool, true, false, cond, refl, sym, ap, subst, ◌∙◌, inl, inr, List, [], ◌∷◌, ◌&&◌, nat_eq, length, replicate, take, filter, ◌⊎◌, Option, Some, None, ◌++◌, ◌-◌, eq-eqb, ne_eqb, arith}
use Prim.Native.Nat.compare
use lib.Dec.{compare_is_eq}
use Rattle.std.specs.Option.{option_map_or}
use Rattle.std.specs.Map.{keys_of, lookup, lookup_entry, remove_entry}
use Rattle.std.specs.Cmp.Lexicographic.{pointwise, bytes_decides}
use Rattle.std.specs.List.{IsDistinct}
use Rattle.std.proofs.lemmas.Map.{lookup-remove_entry}
use Rattle.lru.specs.LruCache.{LruCache, lru_cache, put_entries, promoted}
use Rattle.lru.proofs.CallerLemmas.{lookup-put_entries}
use Rattle.op_vector.specs.declared.data.Vid.{Vid}
use Rattle.name_cache.specs.contracts.key.KeyPartialEq.TheImpl.{eq-value}
use Rattle.name_cache.specs.contracts.key.KeyEq.TheImpl.Laws.{laws-law}
use Rattle.name_cache.specs.Entries.{Place, Entry, same_vid, is_place, says, spares, entered, left_of, SayTheSame, AddsAtMost}
use Rattle.name_cache.proofs.Lookups.{remove_other, promoted_says, put_says, kept_says, left}

same_self : (s : List ℕ) → pointwise nat_eq s s ≡ true
same_self [] = refl
same_self (x ∷ s) = rw (eq-eqb x x refl, same_self s) refl

shuffle : (a b c : Bool) → (a && (b && c)) ≡ (b && (a && c))
shuffle true true c = refl
shuffle true false c = refl
shuffle false true c = refl
shuffle false false c = refl

both_more : (m n : ℕ) → nat_eq (suc m) (suc n) ≡ nat_eq m n
both_more m n = ap compare_is_eq (compare.suc-suc m n)

behind : (a b s t : List ℕ) → (length a ≡ length b → s ≡ t) → (nat_eq (length a) (length b) && pointwise nat_eq (a ++ s) (b ++ t)) ≡ pointwise nat_eq a b
behind [] [] s t h = rw (h refl) (same_self t)
behind [] (y ∷ b) s t h = rw (ne_eqb 0 (suc (length b)) (λ e. omega arith)) refl
behind (x ∷ a) [] s t h = rw (ne_eqb (suc (length a)) 0 (λ e. omega arith)) refl
behind (x ∷ a) (y ∷ b) s t h =
    ap (λ z. z && (nat_eq x y && pointwise nat_eq (a ++ s) (b ++ t))) (both_more (length a) (length b))
    ∙ (shuffle (nat_eq (length a) (length b)) (nat_eq x y) (pointwise nat_eq (a ++ s) (b ++ t)) ∙ ap (λ z. nat_eq x y && z) (behind a b s t (λ e. h (ap suc e))))

pub same_key : (k : Place) → eq-value.it k ≡ is_place k.0 k.1
same_key k = λ i p. ((nat_eq k.0.slot p.0.slot && nat_eq k.0.generation p.0.generation) && behind k.1 p.1 (replicate {A = ℕ} (255 - length k.1) 0) (replicate {A = ℕ} (255 - length p.1) 0) (λ e. ap (λ n. replicate {A = ℕ} (255 - n) 0) e) i)

abbrev pub Cache : Type 0
Cache = LruCache Place (Option Vid)

module _ (dir : Vid) (name : List ℕ) (k : Place) (key : k ≡ (dir, name)) where
  pub test_is : eq-value.it k ≡ is_place dir name
  test_is = same_key k ∙ ap (λ p. is_place p.0 p.1) key

  pub put_is : (what : Option Vid) (was now : Cache) (self : List Entry) → was.cap ≡ 1024 → was.entries ≡ self
      → now ≡ lru_cache (put_entries eq-value.it was k what) was.cap → now.entries ≡ entered dir name what self
  put_is what was now self cap v h = ap (λ (c : Cache). c.entries) h
      ∙ (λ i. option_map_or (λ e. (e.0, what) ∷ remove_entry (test_is i) (v i)) (lookup_entry (test_is i) (v i)) ((key i, what) ∷ take (cap i - 1) (v i)))

  pub promote_is : (es self : List Entry) → es ≡ self → promoted (eq-value.it k) es ≡ promoted (is_place dir name) self
  promote_is es self v = λ i. promoted (test_is i) (v i)

  pub lookup_is : (es self : List Entry) → es ≡ self → lookup (eq-value.it k) es ≡ lookup (is_place dir name) self
  lookup_is es self v = λ i. lookup (test_is i) (v i)

  pub remove_is : (es self : List Entry) → es ≡ self → remove_entry (eq-value.it k) es ≡ remove_entry (is_place dir name) self
  remove_is es self v = λ i. remove_entry (test_is i) (v i)

both : (a b : Bool) → (a && b) ≡ true → (a ≡ true) × (b ≡ true)
both true b h = (refl, h)
both false b h = cc

vid_exact : (a b : Vid) → same_vid a b ≡ true → a ≡ b
vid_exact a b h =
    let parts = both (nat_eq a.slot b.slot) (nat_eq a.generation b.generation) h in
    let slot : a.slot ≡ b.slot = compare_exact a.slot b.slot parts.0 in
    let generation : a.generation ≡ b.generation = compare_exact a.generation b.generation parts.1 in
    λ i. record { slot = slot i; generation = generation i }
  where
    compare_exact : (x y : ℕ) → nat_eq x y ≡ true → x ≡ y
    compare_exact x y e = grind arith

-- a key that is this directory and name is their pair
place_is : (dir : Vid) (name : List ℕ) (p : Place) → is_place dir name p ≡ true → (dir, name) ≡ p
place_is dir name p h =
    let parts = both (same_vid dir p.0) (pointwise nat_eq name p.1) h in
    let d = vid_exact dir p.0 parts.0 in
    let n = (bytes_decides name p.1).0 parts.1 in
    λ i. (d i, n i)

place_exact : (x y : Place) → eq-value.it x y ≡ true → x ≡ y
place_exact x y h = place_is x.0 x.1 y (sym (ap (λ (f : Place → Bool). f y) (same_key x)) ∙ h)

says_is : (es : List Entry) (d : Vid) (n : List ℕ) → lookup (eq-value.it (d, n)) es ≡ says es d n
says_is es d n = ap (λ (f : Place → Bool). lookup f es) (same_key (d, n))

-- what is said after a look-up
pub promoted_same : (dir : Vid) (name : List ℕ) (es : List Entry) → SayTheSame es (promoted (is_place dir name) es)
promoted_same dir name es = λ d n. subst (λ (g : Place → Bool). says (promoted g es) d n ≡ says es d n) (same_key (dir, name))
    (sym (says_is (promoted (eq-value.it (dir, name)) es) d n) ∙ (promoted_says eq-value.it laws-law (dir, name) (d, n) es ∙ says_is es d n))

-- what is said after an entry
pub entered_said : (dir : Vid) (name : List ℕ) (what : Option Vid) (es : List Entry) → says (entered dir name what es) dir name ≡ Some what
entered_said dir name what es = subst (λ (g : Place → Bool). lookup g (option_map_or (λ e. (e.0, what) ∷ remove_entry g es) (lookup_entry g es) (((dir, name), what) ∷ take 1023 es)) ≡ Some what) (same_key (dir, name))
    (lookup-put_entries eq-value.it (lru_cache es 1024) (dir, name) what laws-law)

pub entered_adds : (dir : Vid) (name : List ℕ) (what : Option Vid) (es : List Entry) → AddsAtMost dir name what es (entered dir name what es)
entered_adds dir name what es = λ d n w h. (
    let k : lookup (eq-value.it (d, n)) (option_map_or (λ e. (e.0, what) ∷ remove_entry (eq-value.it (dir, name)) es) (lookup_entry (eq-value.it (dir, name)) es) (((dir, name), what) ∷ take 1023 es)) ≡ Some w
    = subst (λ (g : Place → Bool). lookup (eq-value.it (d, n)) (option_map_or (λ e. (e.0, what) ∷ remove_entry g es) (lookup_entry g es) (((dir, name), what) ∷ take 1023 es)) ≡ Some w) (sym (same_key (dir, name))) (says_is (entered dir name what es) d n ∙ h) in
    elim (put_says eq-value.it laws-law (dir, name) (d, n) what es 1023 w k) as (λ _. (says es d n ≡ Some w) ⊎ ((d ≡ dir) × (n ≡ name) × (w ≡ what))) [
      | inl a ↦ inl (sym (says_is es d n) ∙ a)
      | inr b ↦ (let same = place_exact (dir, name) (d, n) b.0 in inr (sym (ap (λ (x : Place). x.0) same), sym (ap (λ (x : Place). x.1) same), b.1))
    ]
    )

-- what is said after a purge
pub removed_silent : (dir : Vid) (name : List ℕ) (es : List Entry) → IsDistinct eq-value.it (keys_of es) → says (remove_entry (is_place dir name) es) dir name ≡ None
removed_silent dir name es d = subst (λ (g : Place → Bool). lookup g (remove_entry g es) ≡ None) (same_key (dir, name))
    (lookup-remove_entry laws-law (eq-value.it (dir, name)) (λ x y h. laws-law.congr (dir, name) x y h) (dir, name) es d ∙ ap (λ b. cond b None (lookup (eq-value.it (dir, name)) es)) (laws-law.refl (dir, name)))

pub removed_others : (dir : Vid) (name : List ℕ) (es : List Entry) (d : Vid) (n : List ℕ) → is_place dir name (d, n) ≡ false → says (remove_entry (is_place dir name) es) d n ≡ says es d n
removed_others dir name es d n h = subst (λ (g : Place → Bool). says (remove_entry g es) d n ≡ says es d n) (same_key (dir, name))
    (sym (says_is (remove_entry (eq-value.it (dir, name)) es) d n)
    ∙ (remove_other eq-value.it laws-law (dir, name) (d, n) (ap (λ (f : Place → Bool). f (d, n)) (same_key (dir, name)) ∙ h) es ∙ says_is es d n))

-- what is said after the entries that name a vnode were dropped
pub kept_left : (vid : Vid) (es : List Entry) → IsDistinct eq-value.it (keys_of es) → (d : Vid) (n : List ℕ) → says (filter (spares vid) es) d n ≡ left_of vid d (says es d n)
kept_left vid es distinct d n = sym (says_is (filter (spares vid) es) d n)
    ∙ (kept_says eq-value.it laws-law place_exact (d, n) (spares vid) es distinct ∙ (same_left (lookup (eq-value.it (d, n)) es) ∙ ap (left_of vid d) (says_is es d n)))
  where
    same_left : (o : Option (Option Vid)) → left (spares vid) (d, n) o ≡ left_of vid d o
    same_left None = refl
    same_left (Some what) = refl

-- what is said is found by the key
pub said_some : (dir : Vid) (name : List ℕ) (k : Place) (es self : List Entry) → k ≡ (dir, name) → es ≡ self → says self dir name ≢ None → IsSome (lookup (eq-value.it k) es)
said_some dir name k es self key v h = by_case (lookup (eq-value.it k) es) (λ e. h (sym (lookup_is dir name k key es self v) ∙ e))
  where
    by_case : (o : Option (Option Vid)) → o ≢ None → IsSome o
    by_case None n = absurd (n refl)
    by_case (Some x) n = refl
