-- Entries of finite maps by numbers: one more among them, one fewer, and entries that have each key once.
use Rattle.std.proofs.Common.{ℕ, Bool, true, false, ◌≡◌, ◌≢◌, ◌<◌, ◌||◌, cond, List, [], ◌∷◌, ◌++◌, map, length, refl, ap, sym, ◌∙◌, inl, inr, arith}
use Rattle.std.specs.Prelude.{Option, Some, None}
use Rattle.std.specs.List.{list_any}
use Rattle.std.specs.declared.cmp.Ordering.TheVariants.{Less, Equal, Greater}
use Rattle.std.specs.Ordering.{nat_cmp, eq_by_cmp}
use Rattle.std.specs.Cmp.{nat_cmp_total}
use Rattle.std.specs.FinMap.{empty, insert, remove, entries, values, from_entries, find, put, nat_cmp-IsAntisymmetric, same_map, get-entries, get-insert, get-remove, get-from_entries, entries-insert, len-entries, len-empty}
use Rattle.std.specs.FinMap.Entries.{by_order}
use Rattle.std.proofs.lemmas.Bool.{cases_eq}
use Rattle.std.proofs.lemmas.Bool.Decides.{nat_tests}
use Rattle.mount_table.specs.Seats.{Once}

-- ---- keys

pub key_yes : (q k : ℕ) → q ≡ k → eq_by_cmp nat_cmp q k ≡ true
key_yes q k e = grind (arith, nat_tests)

pub key_no : (q k : ℕ) → q ≢ k → eq_by_cmp nat_cmp q k ≡ false
key_no q k n = grind (arith, nat_tests)

pub key_less : (q k : ℕ) → q < k → nat_cmp q k ≡ Less
key_less q k h = grind (arith, nat_tests)

key_is : (q k : ℕ) → eq_by_cmp nat_cmp q k ≡ true → q ≡ k
key_is q k h = elim (cases_eq q k) [
  | inl e ↦ e
  | inr n ↦ (let no = key_no q k n in cc)
]

-- a key that isn't there is neither the first nor among the rest
pub head_none : {X : Type 0} (x : ℕ × X) (xs : List (ℕ × X)) (k : ℕ) → find nat_cmp k (x ∷ xs) ≡ None → (k ≢ x.0) × (find nat_cmp k xs ≡ None)
head_none x xs k none = elim (cases_eq k x.0) [
  | inl e ↦ (let found : cond (eq_by_cmp nat_cmp k x.0) (Some x.1) (find nat_cmp k xs) ≡ Some x.1 = rw (key_yes k x.0 e) refl in cc)
  | inr n ↦ (n, rw (key_no k x.0 n) at none)
]

pub none_cons : {X : Type 0} (x : ℕ × X) (xs : List (ℕ × X)) (k : ℕ) → k ≢ x.0 → find nat_cmp k xs ≡ None → find nat_cmp k (x ∷ xs) ≡ None
none_cons x xs k n none = rw (key_no k x.0 n) none

pub none_append : {X : Type 0} (xs ys : List (ℕ × X)) (k : ℕ) → find nat_cmp k xs ≡ None → find nat_cmp k ys ≡ None → find nat_cmp k (xs ++ ys) ≡ None
none_append [] ys k a b = b
none_append (x ∷ xs) ys k a b = let h = head_none x xs k a in none_cons x (xs ++ ys) k h.0 (none_append xs ys k h.1 b)

pub none_front : {X : Type 0} (xs ys : List (ℕ × X)) (k : ℕ) → find nat_cmp k (xs ++ ys) ≡ None → find nat_cmp k xs ≡ None
none_front [] ys k h = refl
none_front (x ∷ xs) ys k h = let t = head_none x (xs ++ ys) k h in none_cons x xs k t.0 (none_front xs ys k t.1)

pub none_back : {X : Type 0} (xs ys : List (ℕ × X)) (k : ℕ) → find nat_cmp k (xs ++ ys) ≡ None → find nat_cmp k ys ≡ None
none_back [] ys k h = h
none_back (x ∷ xs) ys k h = none_back xs ys k (head_none x (xs ++ ys) k h).1

-- ---- one entry among others

swapped : {A : Type 0} (a b : Bool) (x y z : A) → (a ≡ true → b ≡ true → ⊥) → cond a x (cond b y z) ≡ cond b y (cond a x z)
swapped true true x y z h = absurd (h refl refl)
swapped true false x y z h = refl
swapped false true x y z h = refl
swapped false false x y z h = refl

module _ {X : Type 0} where
  pub find_among : (xs ys : List (ℕ × X)) (k : ℕ) (v : X) (q : ℕ) → find nat_cmp k xs ≡ None
      → find nat_cmp q (xs ++ (k, v) ∷ ys) ≡ cond (eq_by_cmp nat_cmp q k) (Some v) (find nat_cmp q (xs ++ ys))
  find_among [] ys k v q none = refl
  find_among (x ∷ xs) ys k v q none =
      let h = head_none x xs k none in
      ap (cond (eq_by_cmp nat_cmp q x.0) (Some x.1)) (find_among xs ys k v q h.1)
      ∙ swapped (eq_by_cmp nat_cmp q x.0) (eq_by_cmp nat_cmp q k) (Some x.1) (Some v) (find nat_cmp q (xs ++ ys)) (λ a b. h.0 (sym (key_is q k b) ∙ key_is q x.0 a))

  pub inserted : (xs ys : List (ℕ × X)) (k : ℕ) (v : X) → find nat_cmp k xs ≡ None → from_entries {R = nat_cmp} (xs ++ (k, v) ∷ ys) ≡ insert (from_entries (xs ++ ys)) k v
  inserted xs ys k v none = same_map nat_cmp_total nat_cmp-IsAntisymmetric _ _ (λ q.
      get-from_entries nat_cmp_total (xs ++ (k, v) ∷ ys) q ∙ (find_among xs ys k v q none
      ∙ sym (get-insert nat_cmp_total (from_entries (xs ++ ys)) k v q ∙ ap (cond (eq_by_cmp nat_cmp q k) (Some v)) (get-from_entries nat_cmp_total (xs ++ ys) q))))

  removed_at : (q k : ℕ) (o p : Option X) (v : X) → (q ≡ k → o ≡ None) → p ≡ cond (eq_by_cmp nat_cmp q k) (Some v) o → o ≡ cond (eq_by_cmp nat_cmp q k) None p
  removed_at q k o p v none is = elim (cases_eq q k) [
    | inl e ↦ rw (key_yes q k e) (none e)
    | inr n ↦ rw (key_no q k n) (sym (rw (key_no q k n) at is))
  ]

  pub taken_out : (xs ys : List (ℕ × X)) (k : ℕ) (v : X) → find nat_cmp k xs ≡ None → find nat_cmp k ys ≡ None → from_entries {R = nat_cmp} (xs ++ ys) ≡ remove (from_entries (xs ++ (k, v) ∷ ys)) k
  taken_out xs ys k v before after = same_map nat_cmp_total nat_cmp-IsAntisymmetric _ _ (λ q.
      let found = find_among xs ys k v q before in
      get-from_entries nat_cmp_total (xs ++ ys) q
      ∙ (removed_at q k (find nat_cmp q (xs ++ ys)) (find nat_cmp q (xs ++ (k, v) ∷ ys)) v (λ e. ap (λ w. find nat_cmp w (xs ++ ys)) e ∙ none_append xs ys k before after) found
      ∙ sym (get-remove nat_cmp_total (from_entries (xs ++ (k, v) ∷ ys)) k q ∙ ap (cond (eq_by_cmp nat_cmp q k) None) (get-from_entries nat_cmp_total (xs ++ (k, v) ∷ ys) q))))

-- ---- each key once

no_length : {A : Type 0} (es : List A) → length es ≡ 0 → es ≡ []
no_length [] e = refl
no_length (x ∷ es) e = absurd (omega (arith, e))

pub entries-empty : (X : Type 0) → entries (empty {X = X} {R = nat_cmp}) ≡ []
entries-empty X = no_length _ (sym (len-entries empty) ∙ len-empty nat_cmp X)

pub once_without : (xs ys : List (ℕ × ℕ)) (e : ℕ × ℕ) → Once (xs ++ e ∷ ys) → (find nat_cmp e.0 xs ≡ None) × (find nat_cmp e.0 ys ≡ None) × Once (xs ++ ys)
once_without [] ys e h = (refl, h.0, h.1)
once_without (x ∷ xs) ys e h =
    let rest = once_without xs ys e h.1 in
    let back = none_back xs (e ∷ ys) x.0 h.0 in
    let other = head_none e ys x.0 back in
    (none_cons x xs e.0 (λ q. other.0 (sym q)) rest.0, rest.1, (none_append xs ys x.0 (none_front xs (e ∷ ys) x.0 h.0) other.1, rest.2))

pub once_with : (xs ys : List (ℕ × ℕ)) (k : ℕ) (v : ℕ) → Once (xs ++ ys) → find nat_cmp k (xs ++ ys) ≡ None → Once (xs ++ (k, v) ∷ ys)
once_with [] ys k v h none = (none, h)
once_with (x ∷ xs) ys k v h none =
    let other = head_none x (xs ++ ys) k none in
    let front = none_front xs ys x.0 h.0 in
    let back = none_back xs ys x.0 h.0 in
    (none_append xs ((k, v) ∷ ys) x.0 front (none_cons (k, v) ys x.0 (λ q. other.0 (sym q)) back), once_with xs ys k v h.1 other.1)

-- ---- tests of values

rotated : (a b c : Bool) → (a || (b || c)) ≡ (b || (a || c))
rotated true true c = refl
rotated true false c = refl
rotated false true c = refl
rotated false false c = refl

put_any : (p : ℕ → Bool) (k v : ℕ) (es : List (ℕ × ℕ)) → find nat_cmp k es ≡ None → list_any p (map (λ e. e.1) (put nat_cmp k v es)) ≡ (p v || list_any p (map (λ e. e.1) es))
put_any p k v [] none = refl
put_any p k v (e ∷ es) none =
    let rest = head_none e es k none in
    (elim (nat_cmp k e.0) as (λ r. nat_cmp k e.0 ≡ r → list_any p (map (λ e. e.1) (by_order r ((k, v) ∷ e ∷ es) ((e.0, v) ∷ es) (e ∷ put nat_cmp k v es))) ≡ (p v || (p e.1 || list_any p (map (λ e. e.1) es)))) [
      | Less ↦ λ is. refl
      | Equal ↦ λ is. absurd (rest.0 (nat_cmp-IsAntisymmetric k e.0 is))
      | Greater ↦ λ is. ap (λ b. p e.1 || b) (put_any p k v es rest.1) ∙ rotated (p e.1) (p v) (list_any p (map (λ e. e.1) es))
    ]) refl

-- whether a value passes, of entries that have each key once
pub any_value : (p : ℕ → Bool) (es : List (ℕ × ℕ)) → Once es → list_any p (values (from_entries {R = nat_cmp} es)) ≡ list_any (λ e. p e.1) es
any_value p [] once = rw (entries-empty ℕ) refl
any_value p (e ∷ es) once =
    let none : find nat_cmp e.0 (entries (from_entries {R = nat_cmp} es)) ≡ None = sym (get-entries (from_entries es) e.0) ∙ (get-from_entries nat_cmp_total es e.0 ∙ once.0) in
    ap (λ l. list_any p (map (λ e. e.1) l)) (entries-insert nat_cmp_total (from_entries es) e.0 e.1)
    ∙ (put_any p e.0 e.1 (entries (from_entries es)) none ∙ ap (λ b. p e.1 || b) (any_value p es once.1))
