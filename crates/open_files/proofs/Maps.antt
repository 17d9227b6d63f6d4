-- The things in rows of places, as a map by caller and descriptor.
use Rattle.std.proofs.Common.{◌≡◌, ◌≢◌, ℕ, zero, suc, ◌+◌, ◌*◌, ◌<◌, ◌≤◌, nat_lt, Bool, true, false, cond, refl, sym, ap, ◌∙◌, subst, List, [], ◌∷◌, length, replicate, Option, Some, None, arith}
use Rattle.std.specs.Option.{option_map}
use Rattle.std.specs.List.{slice_index_or, slice_set}
use Rattle.std.specs.FinMap.{empty, get, insert, remove, get-empty, get-insert, get-remove, same_map}
use Rattle.std.specs.Ordering.{eq_by_cmp, is_eq}
use Rattle.std.specs.declared.cmp.Ordering.{Ordering}
use Rattle.std.specs.declared.cmp.Ordering.TheVariants.{Less, Equal, Greater}
use Rattle.std.proofs.lemmas.Cmp.{tied_itself}
use Rattle.std.proofs.lemmas.List.{get_or-set_same, get_or-set_other}
use Rattle.finite_maps.specs.Keys.{pair_cmp}
use Rattle.finite_maps.proofs.EntryLaws.{pair_total, pair_exact}
use Rattle.open_files.specs.Rows.{place_of, key_of, keyed, seat_of, without_seat}
use Rattle.open_files.specs.declared.places.Seat.{Seat}

tied : (r : Ordering) → is_eq r ≡ true → r ≡ Equal
tied Less e = cc
tied Equal e = refl
tied Greater e = cc

same_key : (a b : ℕ) → key_of a ≡ key_of b → a ≡ b
same_key a b e =
    let row = ap (λ k. k.0) e in
    let col = ap (λ k. k.1) e in
    omega arith

pub key_of_place : (caller fd : ℕ) → 1 ≤ caller → fd < 32 → key_of (place_of caller fd) ≡ (caller, fd)
key_of_place caller fd one within =
    let row : (key_of (place_of caller fd)).0 ≡ caller = omega arith in
    let col : (key_of (place_of caller fd)).1 ≡ fd = omega arith in
    λ i. (row i, col i)

-- the test of two keys, by cases
at_key : (q k : ℕ × ℕ) (P : Bool → Type 0) → (q ≡ k → P true) → (q ≢ k → P false) → P (eq_by_cmp pair_cmp q k)
at_key q k P same other = (elim (eq_by_cmp pair_cmp q k) as (λ b. eq_by_cmp pair_cmp q k ≡ b → P b) [
  | true ↦ λ e. same (pair_exact q k (tied _ e))
  | false ↦ λ e. other (λ s. (let yes : eq_by_cmp pair_cmp q k ≡ true = subst (λ x. eq_by_cmp pair_cmp q x ≡ true) s (ap is_eq (tied_itself pair_total q)) in cc))
]) refl

-- a pair is the key of a place, or of none
key_cases : (q : ℕ × ℕ) (P : Type 0) → ((i : ℕ) → q ≡ key_of i → P) → (((i : ℕ) → q ≢ key_of i) → P) → P
key_cases q P is isnt = (elim (nat_lt 0 q.0) as (λ b. nat_lt 0 q.0 ≡ b → P) [
  | true ↦ λ one. (elim (nat_lt q.1 32) as (λ b. nat_lt q.1 32 ≡ b → P) [
    | true ↦ λ within. is (place_of q.0 q.1) (sym (key_of_place q.0 q.1 (grind arith) (grind arith)))
    | false ↦ λ beyond. isnt (λ i e. (let col = ap (λ k. k.1) e in absurd (grind arith)))
  ]) refl
  | false ↦ λ none. isnt (λ i e. (let row = ap (λ k. k.0) e in absurd (grind arith)))
]) refl

none_past : {S : Type 0} (places : List (Option S)) (i : ℕ) (s : S) → slice_index_or places i None ≡ Some s → i < length places
none_past [] i s e = cc
none_past (p ∷ places) zero s e = omega arith
none_past (p ∷ places) (suc i) s e = let k = none_past places i s e in omega arith

module _ {S X : Type 0} (f : S → X) where
  -- a key of no place from `from` on
  get_other : (from : ℕ) (places : List (Option S)) (q : ℕ × ℕ) → ((i : ℕ) → from ≤ i → q ≢ key_of i) → get (keyed f from places) q ≡ None
  get_other from [] q h = get-empty pair_cmp q
  get_other from (None ∷ places) q h = get_other (from + 1) places q (λ i le. h i (omega arith))
  get_other from (Some s ∷ places) q h =
      get-insert pair_total (keyed f (from + 1) places) (key_of from) (f s) q
      ∙ at_key q (key_of from) (λ b. cond b (Some (f s)) (get (keyed f (from + 1) places) q) ≡ None) (λ e. absurd (h from (omega arith) e)) (λ _. get_other (from + 1) places q (λ i le. h i (omega arith)))

  get_from : (from : ℕ) (places : List (Option S)) (i : ℕ) → get (keyed f from places) (key_of (from + i)) ≡ option_map f (slice_index_or places i None)
  get_from from [] i = get-empty pair_cmp (key_of (from + i))
  get_from from (None ∷ places) zero = get_other (from + 1) places (key_of (from + 0)) (λ j le e. (let same = same_key (from + 0) j e in omega arith))
  get_from from (None ∷ places) (suc i) =
      let next : from + suc i ≡ from + 1 + i = omega arith in
      subst (λ n. get (keyed f (from + 1) places) (key_of n) ≡ option_map f (slice_index_or places i None)) (sym next) (get_from (from + 1) places i)
  get_from from (Some s ∷ places) zero =
      get-insert pair_total (keyed f (from + 1) places) (key_of from) (f s) (key_of (from + 0))
      ∙ at_key (key_of (from + 0)) (key_of from) (λ b. cond b (Some (f s)) (get (keyed f (from + 1) places) (key_of (from + 0))) ≡ Some (f s)) (λ _. refl) (λ n. absurd (n (ap key_of (let here : from + 0 ≡ from = omega arith in here))))
  get_from from (Some s ∷ places) (suc i) =
      let next : from + suc i ≡ from + 1 + i = omega arith in
      get-insert pair_total (keyed f (from + 1) places) (key_of from) (f s) (key_of (from + suc i))
      ∙ at_key (key_of (from + suc i)) (key_of from) (λ b. cond b (Some (f s)) (get (keyed f (from + 1) places) (key_of (from + suc i))) ≡ option_map f (slice_index_or places i None)) (λ e. (let same = same_key (from + suc i) from e in absurd (omega arith))) (λ _. subst (λ n. get (keyed f (from + 1) places) (key_of n) ≡ option_map f (slice_index_or places i None)) (sym next) (get_from (from + 1) places i))

  -- what stands at the key of a place
  pub get_place : (places : List (Option S)) (i : ℕ) → get (keyed f 0 places) (key_of i) ≡ option_map f (slice_index_or places i None)
  get_place places i =
      let none : 0 + i ≡ i = omega arith in
      subst (λ n. get (keyed f 0 places) (key_of n) ≡ option_map f (slice_index_or places i None)) none (get_from 0 places i)

  -- what stands at a caller's descriptor
  pub get_at : (places : List (Option S)) (caller fd : ℕ) → 1 ≤ caller → fd < 32 → get (keyed f 0 places) (caller, fd) ≡ option_map f (slice_index_or places (place_of caller fd) None)
  get_at places caller fd one within =
      subst (λ k. get (keyed f 0 places) k ≡ option_map f (slice_index_or places (place_of caller fd) None)) (key_of_place caller fd one within) (get_place places (place_of caller fd))

  -- nothing stands past the last descriptor
  pub get_past : (places : List (Option S)) (caller fd : ℕ) → 32 ≤ fd → get (keyed f 0 places) (caller, fd) ≡ None
  get_past places caller fd past = get_other 0 places (caller, fd) (λ i _ e. (let col = ap (λ k. k.1) e in absurd (omega arith)))

  some_of : (o : Option S) (x : X) → option_map f o ≡ Some x → (s : S) × (o ≡ Some s) × (f s ≡ x)
  some_of None x e = cc
  some_of (Some s) x e = (s, refl, cc)

  -- where something stands, a place has it
  pub place_of_some : (places : List (Option S)) (q : ℕ × ℕ) (x : X) → get (keyed f 0 places) q ≡ Some x
      → (i : ℕ) × (q ≡ key_of i) × (i < length places) × (s : S) × (slice_index_or places i None ≡ Some s) × (f s ≡ x)
  place_of_some places q x e = key_cases q _ (λ i k. (
      let at : option_map f (slice_index_or places i None) ≡ Some x = sym (get_place places i) ∙ (subst (λ j. get (keyed f 0 places) j ≡ Some x) k e) in
      let s = some_of (slice_index_or places i None) x at in
      (i, k, none_past places i s.0 s.1, s.0, s.1, s.2)
      )) (λ isnt. (let none = get_other 0 places q (λ i _. isnt i) in cc))

  -- a place that is written changes what stands at its key
  get_set : (places : List (Option S)) (p : ℕ) (v : Option S) (q : ℕ × ℕ) → p < length places
      → get (keyed f 0 (slice_set places p v)) q ≡ cond (eq_by_cmp pair_cmp q (key_of p)) (option_map f v) (get (keyed f 0 places) q)
  get_set places p v q le = key_cases q _ (λ i k. at_key q (key_of p) (λ b. get (keyed f 0 (slice_set places p v)) q ≡ cond b (option_map f v) (get (keyed f 0 places) q))
      (λ e. (subst (λ j. get (keyed f 0 (slice_set places p v)) j ≡ option_map f v) (sym e) (get_place (slice_set places p v) p ∙ ap (option_map f) (get_or-set_same places p v None le))))
      (λ n. (subst (λ j. get (keyed f 0 (slice_set places p v)) j ≡ get (keyed f 0 places) j) (sym k)
      (get_place (slice_set places p v) i ∙ ap (option_map f) (get_or-set_other places p i v None (λ s. n (k ∙ ap key_of s))) ∙ sym (get_place places i)))))
      (λ isnt. at_key q (key_of p) (λ b. get (keyed f 0 (slice_set places p v)) q ≡ cond b (option_map f v) (get (keyed f 0 places) q))
      (λ e. absurd (isnt p e))
      (λ _. get_other 0 (slice_set places p v) q (λ i _. isnt i) ∙ sym (get_other 0 places q (λ i _. isnt i))))

  pub keyed_put : (places : List (Option S)) (caller fd : ℕ) (s : S) → 1 ≤ caller → fd < 32 → place_of caller fd < length places
      → keyed f 0 (slice_set places (place_of caller fd) (Some s)) ≡ insert (keyed f 0 places) (caller, fd) (f s)
  keyed_put places caller fd s one within le = subst (λ k. keyed f 0 (slice_set places (place_of caller fd) (Some s)) ≡ insert (keyed f 0 places) k (f s)) (key_of_place caller fd one within)
      (same_map pair_total pair_exact _ _ (λ q. get_set places (place_of caller fd) (Some s) q le ∙ sym (get-insert pair_total (keyed f 0 places) (key_of (place_of caller fd)) (f s) q)))

  pub keyed_out : (places : List (Option S)) (caller fd : ℕ) → 1 ≤ caller → fd < 32 → place_of caller fd < length places
      → keyed f 0 (slice_set places (place_of caller fd) None) ≡ remove (keyed f 0 places) (caller, fd)
  keyed_out places caller fd one within le = subst (λ k. keyed f 0 (slice_set places (place_of caller fd) None) ≡ remove (keyed f 0 places) k) (key_of_place caller fd one within)
      (same_map pair_total pair_exact _ _ (λ q. get_set places (place_of caller fd) None q le ∙ sym (get-remove pair_total (keyed f 0 places) (key_of (place_of caller fd)) q)))

  -- no place has anything
  pub keyed_none : (from n : ℕ) → keyed f from (replicate n None) ≡ empty
  keyed_none from zero = refl
  keyed_none from (suc n) = keyed_none (from + 1) n

-- what a caller's descriptor has, as the maps show it
module _ {X : Type 0} (f : Seat → X) where
  pub get_seat : (places : List (Option Seat)) (caller fd : ℕ) → 1 ≤ caller → get (keyed f 0 places) (caller, fd) ≡ option_map f (seat_of places caller fd)
  get_seat places caller fd one = (elim (nat_lt fd 32) as (λ b. nat_lt fd 32 ≡ b → get (keyed f 0 places) (caller, fd) ≡ option_map f (cond b (slice_index_or places (place_of caller fd) None) None)) [
    | true ↦ λ within. get_at f places caller fd one (grind arith)
    | false ↦ λ past. get_past f places caller fd (grind arith)
  ]) refl

  pub get_without : (places : List (Option Seat)) (caller fd : ℕ) → 1 ≤ caller → caller * 32 ≤ length places → keyed f 0 (without_seat places caller fd) ≡ remove (keyed f 0 places) (caller, fd)
  get_without places caller fd one le = (elim (nat_lt fd 32) as (λ b. nat_lt fd 32 ≡ b → keyed f 0 (cond b (slice_set places (place_of caller fd) None) places) ≡ remove (keyed f 0 places) (caller, fd)) [
    | true ↦ λ within. keyed_out f places caller fd one (grind arith) (let below : fd < 32 = grind arith in omega arith)
    | false ↦ λ past. same_map pair_total pair_exact _ _ (λ q. sym (get-remove pair_total (keyed f 0 places) (caller, fd) q
        ∙ at_key q (caller, fd) (λ b. cond b None (get (keyed f 0 places) q) ≡ get (keyed f 0 places) q) (λ e. sym (ap (get (keyed f 0 places)) e ∙ get_past f places caller fd (grind arith))) (λ _. refl)))
  ]) refl
