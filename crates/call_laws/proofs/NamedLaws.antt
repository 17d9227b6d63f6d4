-- Which nodes the names of a store give, told by what stands at its names.
use Rattle.std.specs.declared.cmp.Ordering.{Ordering}
use Rattle.std.proofs.Common.{◌≡◌, ℕ, Bool, true, false, cond, ◌||◌, List, [], ◌∷◌, map, refl, ap, sym, ◌∙◌, nat_cmp, eq-eqb, eqb-true}
use Rattle.std.specs.Prelude.{Option, Some, None, option_map, option_and_then}
use Rattle.std.specs.List.{list_any, find as find_in, AllByRecursion}
use Rattle.std.specs.Cmp.{IsTotalOrder, nat_cmp_total}
use Rattle.std.specs.Cmp.Lexicographic.{nat_list_cmp_total}
use Rattle.std.specs.Ordering.{eq_by_cmp}
use Rattle.std.specs.FinMap.{FinMap, get, find, entries, values, get-entries}
use Rattle.vfs_tree.specs.Layers.{parent_by}
use Rattle.vfs_tree.specs.Name.{name_cmp}
use Rattle.vfs_tree.specs.Nodes.{Names, entry_in}
use Rattle.vfs_tree.specs.StoreEdits.{entry_of}
use Rattle.vfs_tree.specs.Views.{kind_of_node, gives, gives_in, is_named_in, name_in, name_by, facts_in, dir_in, dir_name}
use Rattle.vfs_tree.specs.declared.node.Kind.TheVariants as kind
use Rattle.vfs_tree.specs.declared.node.NameEntry.{NameEntry}
use Rattle.vfs_tree.specs.declared.node.NameEntry.TheVariants.{Ino, White}
use Rattle.vfs_tree.specs.declared.node.Node.{Node}
use Rattle.vfs_tree.specs.declared.node.Node.TheVariants.{Dir, File, Link}
use Rattle.vfs_tree.specs.declared.node.Store.{Store}
use Rattle.vfs_tree.specs.declared.view.DirFacts.{DirFacts}
use Rattle.call_laws.proofs.WeightLaws.{all_given}

pub no_way : {A : Type 0} → false ≡ true → A
no_way e = absurd (let clash : false ≡ true = e in cc)

-- ---- values of maps

-- a key with a value that passes a test
pub record Passes {K X : Type 0} {R : K → K → Ordering} (test : X → Bool) (m : FinMap R X) : Type 0 where
  pub key : K
  pub value : X
  pub at : get m key ≡ Some value
  pub passes : test value ≡ true

any_among : {K X : Type 0} {R : K → K → Ordering} (test : X → Bool) (m : FinMap R X) (es : List (K × X)) → AllByRecursion (λ e. get m e.0 ≡ Some e.1) es
    → list_any test (map (λ e. e.1) es) ≡ true → Passes test m
any_among test m [] all h = no_way h
any_among test m (e ∷ es) all h =
    elim (test e.1) as (λ b. test e.1 ≡ b → (b || list_any test (map (λ e. e.1) es)) ≡ true → Passes test m) [
      | true ↦ λ is _. record { key = e.0; value = e.1; at = all.0; passes = is }
      | false ↦ λ _ rest. any_among test m es all.1 rest
    ] refl h

pub any_value : {K X : Type 0} (R : K → K → Ordering) → IsTotalOrder R → (test : X → Bool) (m : FinMap R X) → list_any test (values m) ≡ true → Passes test m
any_value R o test m h = any_among test m (entries m) (all_given R o m) h

found_any : {K X : Type 0} (R : K → K → Ordering) (test : X → Bool) (es : List (K × X)) (k : K) (v : X) → find R k es ≡ Some v → test v ≡ true → list_any test (map (λ e. e.1) es) ≡ true
found_any R test [] k v e h = cc
found_any R test (x ∷ es) k v e h =
    elim (eq_by_cmp R k x.0) as (λ b. cond b (Some x.1) (find R k es) ≡ Some v → (test x.1 || list_any test (map (λ e. e.1) es)) ≡ true) [
      | true ↦ λ s. ap (λ b. b || list_any test (map (λ e. e.1) es)) (let same : x.1 ≡ v = cc in ap test same ∙ h)
      | false ↦ λ s. either (test x.1) _ (found_any R test es k v s h)
    ] e
  where
    either : (a b : Bool) → b ≡ true → (a || b) ≡ true
    either true b e = refl
    either false b e = e

pub value_any : {K X : Type 0} (R : K → K → Ordering) (test : X → Bool) (m : FinMap R X) (k : K) (v : X) → get m k ≡ Some v → test v ≡ true → list_any test (values m) ≡ true
value_any R test m k v e h = found_any R test (entries m) k v (sym (get-entries m k) ∙ e) h

-- ---- names that give a node

gives_it : (i : ℕ) (e : NameEntry) → gives i e ≡ true → e ≡ Ino i
gives_it i (Ino j) h = ap Ino (eqb-true j i h)
gives_it i White h = no_way h

-- a name of a store that gives a node
pub record Gives (t : Store) (i : ℕ) : Type 0 where
  pub dir : ℕ
  pub name : List ℕ
  pub entry : entry_of t dir name ≡ Some (Ino i)

gives_of : (t : Store) (i d : ℕ) (node : Node) → get t.nodes d ≡ Some node → gives_in i node ≡ true → Gives t i
gives_of t i d (Dir parent opaque names) at h =
    let x = any_value name_cmp nat_list_cmp_total (gives i) names h in
    record { dir = d; name = x.key; entry = ap (entry_in x.key) at ∙ x.at ∙ ap Some (gives_it i x.value x.passes) }
gives_of t i d (File bytes) at h = no_way h
gives_of t i d (Link target) at h = no_way h

-- what is named has a name that gives it
pub named_from : (t : Store) (i : ℕ) → is_named_in t i ≡ true → Gives t i
named_from t i h = let x = any_value nat_cmp nat_cmp_total (gives_in i) t.nodes h in gives_of t i x.key x.value x.at x.passes

named_node : (t : Store) (i d : ℕ) (n : List ℕ) (o : Option Node) → get t.nodes d ≡ o → entry_in n o ≡ Some (Ino i) → is_named_in t i ≡ true
named_node t i d n (Some (Dir parent opaque names)) at e =
    value_any nat_cmp (gives_in i) t.nodes d (Dir parent opaque names) at (value_any name_cmp (gives i) names n (Ino i) e (eq-eqb i i refl))
named_node t i d n (Some (File bytes)) at e = absurd cc
named_node t i d n (Some (Link target)) at e = absurd cc
named_node t i d n None at e = absurd cc

-- and what a name gives is named
pub named_to : (t : Store) (i d : ℕ) (n : List ℕ) → entry_of t d n ≡ Some (Ino i) → is_named_in t i ≡ true
named_to t i d n e = named_node t i d n (get t.nodes d) refl e

-- ---- the name that a parent has for a directory

record First (j : ℕ) (names : Names) (es : List (List ℕ × NameEntry)) : Type 0 where
  pub entry : List ℕ × NameEntry
  pub first : find_in (λ e. gives j e.1) es ≡ Some entry
  pub at : get names entry.0 ≡ Some entry.1
  pub passes : gives j entry.1 ≡ true

first_of : (j : ℕ) (names : Names) (es : List (List ℕ × NameEntry)) → AllByRecursion (λ e. get names e.0 ≡ Some e.1) es → list_any (gives j) (map (λ e. e.1) es) ≡ true → First j names es
first_of j names [] all h = no_way h
first_of j names (e ∷ es) all h =
    elim (gives j e.1) as (λ b. gives j e.1 ≡ b → (b || list_any (gives j) (map (λ e. e.1) es)) ≡ true → First j names (e ∷ es)) [
      | true ↦ λ is _. record { entry = e; first = ap (λ b. cond b (Some e) (find_in (λ e. gives j e.1) es)) is; at = all.0; passes = is }
      | false ↦ λ is rest. let x = first_of j names es all.1 rest in
          record { entry = x.entry; first = ap (λ b. cond b (Some e) (find_in (λ e. gives j e.1) es)) is ∙ x.first; at = x.at; passes = x.passes }
    ] refl h

-- the only name that gives it
only_name : (names : Names) (j : ℕ) (m : List ℕ) → get names m ≡ Some (Ino j) → ((k : List ℕ) → get names k ≡ Some (Ino j) → k ≡ m) → name_in j names ≡ Some m
only_name names j m at once =
    let x = first_of j names (entries names) (all_given name_cmp nat_list_cmp_total names) (value_any name_cmp (gives j) names m (Ino j) at (eq-eqb j j refl)) in
    ap (option_map (λ e. e.0)) x.first ∙ ap Some (once x.entry.0 (x.at ∙ ap Some (gives_it j x.entry.1 x.passes)))

only_name_by : (j : ℕ) (m : List ℕ) (o : Option Node) → entry_in m o ≡ Some (Ino j) → ((k : List ℕ) → entry_in k o ≡ Some (Ino j) → k ≡ m) → name_by j o ≡ Some m
only_name_by j m (Some (Dir parent opaque names)) at once = only_name names j m at once
only_name_by j m (Some (File bytes)) at once = absurd cc
only_name_by j m (Some (Link target)) at once = absurd cc
only_name_by j m None at once = absurd cc

by_parent : (t : Store) (j : ℕ) (o : Option Node) → option_map kind_of_node o ≡ Some kind.Dir
    → option_and_then (λ (d : DirFacts). name_by j (get t.nodes d.parent)) (option_and_then (facts_in t j) o) ≡ name_by j (get t.nodes (parent_by j (option_and_then (facts_in t j) o)))
by_parent t j (Some (Dir parent opaque names)) e = refl
by_parent t j (Some (File bytes)) e = absurd cc
by_parent t j (Some (Link target)) e = absurd cc
by_parent t j None e = absurd cc

-- a directory that its parent has one name for
pub name_is : (t : Store) (j : ℕ) (m : List ℕ) → option_map kind_of_node (get t.nodes j) ≡ Some kind.Dir → entry_of t (parent_by j (dir_in t j)) m ≡ Some (Ino j)
    → ((k : List ℕ) → entry_of t (parent_by j (dir_in t j)) k ≡ Some (Ino j) → k ≡ m) → dir_name t j ≡ Some m
name_is t j m dir at once = by_parent t j (get t.nodes j) dir ∙ only_name_by j m (get t.nodes (parent_by j (dir_in t j))) at once
