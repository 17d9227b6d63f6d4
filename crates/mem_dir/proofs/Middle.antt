-- Records in order, and what becomes of their finite map where one in the middle changes.
use Rattle.std.proofs.Common.{◌≡◌, ℕ, Bool, true, false, cond, List, [], ◌∷◌, ◌++◌, refl, ap, sym, ◌∙◌, subst}
use Rattle.std.specs.Prelude.{Option, Some, None, ⊤}
use Rattle.std.specs.List.{AllByRecursion}
use Rattle.std.specs.Cmp.{IsTotalOrder}
use Rattle.std.specs.Cmp.Lexicographic.{nat_list_cmp_total}
use Rattle.std.specs.Ordering.{eq_by_cmp, is_eq, is_lt, ordering_reverse}
use Rattle.std.specs.declared.cmp.Ordering.{Ordering}
use Rattle.std.specs.declared.cmp.Ordering.TheVariants.{Less, Equal, Greater}
use Rattle.std.specs.FinMap.{FinMap, get, insert, remove, from_entries, empty, get-insert, get-remove, get-empty, same_map}
use Rattle.std.proofs.lemmas.Map.Lookups.{exact_bytes}
use Rattle.finite_maps.proofs.EntryLaws.{insert-insert, remove-insert, get_at-insert}
use Rattle.vfs_tree.specs.Name.{name_cmp}
use Rattle.vfs_tree.specs.declared.node.NameEntry.{NameEntry}
use Rattle.mem_dir.specs.Records.{Record, IsRising}

-- each name of the records is below this one
abbrev pub AreBelow : List Record → List ℕ → Type 0
AreBelow es n = AllByRecursion (λ e. name_cmp e.0 n ≡ Less) es

-- each name of the records is above this one
abbrev pub AreAbove : List Record → List ℕ → Type 0
AreAbove es n = AllByRecursion (λ e. name_cmp n e.0 ≡ Less) es

o : IsTotalOrder name_cmp
o = nat_list_cmp_total

all_append : {X : Type 0} (P : X → Type 0) (a b : List X) → AllByRecursion P a → AllByRecursion P b → AllByRecursion P (a ++ b)
all_append P [] b p q = q
all_append P (x ∷ a) b p q = (p.0, all_append P a b p.1 q)

all_front : {X : Type 0} (P : X → Type 0) (a b : List X) → AllByRecursion P (a ++ b) → AllByRecursion P a
all_front P [] b h = tt
all_front P (x ∷ a) b h = (h.0, all_front P a b h.1)

all_back : {X : Type 0} (P : X → Type 0) (a b : List X) → AllByRecursion P (a ++ b) → AllByRecursion P b
all_back P [] b h = h
all_back P (x ∷ a) b h = all_back P a b h.1

-- what is above a name is above each that is below it
pub above_more : (n m : List ℕ) (es : List Record) → name_cmp m n ≡ Less → AreAbove es n → AreAbove es m
above_more n m [] below h = tt
above_more n m (e ∷ es) below h = (o.trans m n e.0 below h.0, above_more n m es below h.1)

-- a record between those below it and those above it
pub rising_insert : (a b : List Record) (e : Record) → IsRising (a ++ b) → AreBelow a e.0 → AreAbove b e.0 → IsRising (a ++ e ∷ b)
rising_insert [] b e h below above = (above, h)
rising_insert (x ∷ a) b e h below above = (
  all_append (λ f. name_cmp x.0 f.0 ≡ Less) a (e ∷ b) (all_front (λ f. name_cmp x.0 f.0 ≡ Less) a b h.0) (below.0, all_back (λ f. name_cmp x.0 f.0 ≡ Less) a b h.0),
  rising_insert a b e h.1 below.1 above,
)

-- a record less
pub rising_remove : (a b : List Record) (e : Record) → IsRising (a ++ e ∷ b) → IsRising (a ++ b)
rising_remove [] b e h = h.1
rising_remove (x ∷ a) b e h =
    let rest = all_back (λ f. name_cmp x.0 f.0 ≡ Less) a (e ∷ b) h.0 in
    (all_append (λ f. name_cmp x.0 f.0 ≡ Less) a b (all_front (λ f. name_cmp x.0 f.0 ≡ Less) a (e ∷ b) h.0) rest.1, rising_remove a b e h.1)

-- around a record stand those below it and those above it
pub rising_around : (a b : List Record) (e : Record) → IsRising (a ++ e ∷ b) → AreBelow a e.0 × AreAbove b e.0
rising_around [] b e h = (tt, h.0)
rising_around (x ∷ a) b e h =
    let rest = rising_around a b e h.1 in
    (((all_back (λ f. name_cmp x.0 f.0 ≡ Less) a (e ∷ b) h.0).0, rest.0), rest.1)

swapped : {A : Type 0} (a b : Bool) (x y z : A) → (a ≡ true → b ≡ true → ⊥) → cond a x (cond b y z) ≡ cond b y (cond a x z)
swapped true true x y z h = absurd (h refl refl)
swapped true false x y z h = refl
swapped false true x y z h = refl
swapped false false x y z h = refl

equal : (r : Ordering) → is_eq r ≡ true → r ≡ Equal
equal Less e = cc
equal Equal e = refl
equal Greater e = cc

-- inserts at two names in either order
insert-swap : (m : FinMap name_cmp NameEntry) (j k : List ℕ) (v w : NameEntry) → name_cmp j k ≡ Less → insert (insert m j v) k w ≡ insert (insert m k w) j v
insert-swap m j k v w less = same_map o exact_bytes _ _ (λ q.
    get-insert o (insert m j v) k w q ∙ ap (cond (eq_by_cmp name_cmp q k) (Some w)) (get-insert o m j v q)
    ∙ swapped (eq_by_cmp name_cmp q k) (eq_by_cmp name_cmp q j) (Some w) (Some v) (get m q) (λ p r. apart q p r)
    ∙ sym (get-insert o (insert m k w) j v q ∙ ap (cond (eq_by_cmp name_cmp q j) (Some v)) (get-insert o m k w q)))
  where
    apart : (q : List ℕ) → eq_by_cmp name_cmp q k ≡ true → eq_by_cmp name_cmp q j ≡ true → ⊥
    apart q p r =
        let at_k : q ≡ k = exact_bytes q k (equal _ p) in
        let at_j : q ≡ j = exact_bytes q j (equal _ r) in
        let same : name_cmp j k ≡ Equal = subst (λ x. name_cmp x k ≡ Equal) at_j (equal _ p) in
        cc

-- the map with a record in the middle
pub insert_middle : (a b : List Record) (e : Record) → AreBelow a e.0 → from_entries {R = name_cmp} (a ++ e ∷ b) ≡ insert (from_entries (a ++ b)) e.0 e.1
insert_middle [] b e below = refl
insert_middle (x ∷ a) b e below =
    ap (λ m. insert m x.0 x.1) (insert_middle a b e below.1)
    ∙ sym (insert-swap (from_entries (a ++ b)) x.0 e.0 x.1 e.1 below.0)

-- a name that is not among the records
pub get_apart : (a b : List Record) (n : List ℕ) → AreBelow a n → AreAbove b n → get (from_entries {R = name_cmp} (a ++ b)) n ≡ None
get_apart [] [] n below above = get-empty name_cmp n
get_apart [] (x ∷ b) n below above =
    get-insert o (from_entries b) x.0 x.1 n
    ∙ ap (λ r. cond (is_eq r) (Some x.1) (get {R = name_cmp} (from_entries b) n)) above.0
    ∙ get_apart [] b n tt above.1
get_apart (x ∷ a) b n below above =
    get-insert o (from_entries (a ++ b)) x.0 x.1 n
    ∙ ap (λ r. cond (is_eq r) (Some x.1) (get {R = name_cmp} (from_entries (a ++ b)) n)) (o.antisymm n x.0 ∙ ap ordering_reverse below.0)
    ∙ get_apart a b n below.1 above

-- what a name in the middle gives
pub get_middle : (a b : List Record) (e : Record) → AreBelow a e.0 → get (from_entries {R = name_cmp} (a ++ e ∷ b)) e.0 ≡ Some e.1
get_middle a b e below = ap (λ m. get m e.0) (insert_middle a b e below) ∙ get_at-insert o (from_entries (a ++ b)) e.0 e.1

-- the map without the record in the middle
pub remove_middle : (a b : List Record) (e : Record) → AreBelow a e.0 → AreAbove b e.0 → from_entries {R = name_cmp} (a ++ b) ≡ remove (from_entries (a ++ e ∷ b)) e.0
remove_middle a b e below above =
    sym (ap (λ m. remove m e.0) (insert_middle a b e below)
    ∙ remove-insert o exact_bytes (from_entries (a ++ b)) e.0 e.1 (get_apart a b e.0 below above))

-- the map with another record of that name in the middle
pub put_middle : (a b : List Record) (e : Record) (v : NameEntry) → AreBelow a e.0 → from_entries {R = name_cmp} (a ++ (e.0, v) ∷ b) ≡ insert (from_entries (a ++ e ∷ b)) e.0 v
put_middle a b e v below =
    insert_middle a b (e.0, v) below
    ∙ sym (ap (λ m. insert m e.0 v) (insert_middle a b e below) ∙ insert-insert o exact_bytes (from_entries (a ++ b)) e.0 e.1 v)

-- a name that is not there, taken away
pub remove_absent : (m : FinMap name_cmp NameEntry) (k : List ℕ) → get m k ≡ None → m ≡ remove m k
remove_absent m k none = same_map o exact_bytes _ _ (λ q.
    sym (get-remove o m k q
    ∙ elim (eq_by_cmp name_cmp q k) as (λ b. eq_by_cmp name_cmp q k ≡ b → cond b None (get m q) ≡ get m q) [
      | true ↦ λ e. sym (ap (get m) (exact_bytes q k (equal _ e)) ∙ none)
      | false ↦ λ _. refl
    ] refl))
