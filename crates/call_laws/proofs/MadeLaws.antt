-- The names of a store stay sound where a node is made at a name.
use Rattle.std.proofs.Common.{◌≡◌, ℕ, zero, suc, ◌+◌, ◌<◌, ◌⊎◌, inl, inr, Bool, true, false, ◌==◌, ◌||◌, List, [], refl, ap, sym, ◌∙◌, subst, arith, nat_cmp}
use Rattle.std.specs.Prelude.{Option, Some, None, IsSome, IfSome, is_some, option_map, option_and_then}
use Rattle.std.specs.Cmp.{nat_cmp_total}
use Rattle.std.specs.Cmp.Lexicographic.{nat_list_cmp_total}
use Rattle.std.specs.FinMap.{FinMap, get, insert, empty, get-empty}
use Rattle.std.proofs.lemmas.Map.Lookups.{exact_unsigned, exact_bytes}
use Rattle.finite_maps.proofs.EntryLaws.{by_key, get_at-insert}
use Rattle.vfs_tree.specs.Edits.{with_names, with_node, made}
use Rattle.vfs_tree.specs.Layers.{linked_by, parent_by}
use Rattle.vfs_tree.specs.Name.{name_cmp}
use Rattle.vfs_tree.specs.Nodes.{Names, entry_in, is_given, AreBelow}
use Rattle.vfs_tree.specs.StoreEdits.{entry_of}
use Rattle.vfs_tree.specs.Sound.{climb, LeadsUp, AreSoundNames}
use Rattle.vfs_tree.specs.Views.{kind_of_node, is_named_in, is_linked_in, facts_in, dir_in, dir_name}
use Rattle.vfs_tree.specs.declared.node.Kind.{Kind}
use Rattle.vfs_tree.specs.declared.node.Kind.TheVariants as kind
use Rattle.vfs_tree.specs.declared.node.NameEntry.{NameEntry}
use Rattle.vfs_tree.specs.declared.node.NameEntry.TheVariants.{Ino, White}
use Rattle.vfs_tree.specs.declared.node.Node.{Node}
use Rattle.vfs_tree.specs.declared.node.Node.TheVariants.{Dir, File, Link}
use Rattle.vfs_tree.specs.declared.node.Store.{Store}
use Rattle.call_laws.proofs.NamedLaws.{no_way, named_from, named_to, name_is}

-- what holds of the names of a store that is there
abbrev pub StoreNames : Store → Type 0
StoreNames t = AreSoundNames (entry_of t) (λ i. option_map kind_of_node (get t.nodes i)) (dir_in t) (dir_name t)

-- a new node: a directory has its parent and no names
abbrev pub IsFresh : ℕ → Node → Type 0
IsFresh u (Dir parent opaque names) = (parent ≡ u) × (names ≡ empty)
IsFresh u (File bytes) = Unit {0}
IsFresh u (Link target) = Unit {0}

pub none_some : {A X : Type 0} {x : X} {o : Option X} → o ≡ None → o ≡ Some x → A
none_some {x = x} p q = absurd (let clash : None ≡ Some x = sym p ∙ q in cc)

pub fresh_names : (u : ℕ) (node : Node) → IsFresh u node → (m : List ℕ) → entry_in m (Some node) ≡ None
fresh_names u (Dir parent opaque names) h m = ap (λ (x : Names). get x m) h.1 ∙ get-empty {X = NameEntry} name_cmp m
fresh_names u (File bytes) h m = refl
fresh_names u (Link target) h m = refl

pub same_parent : (s t : Store) (d : ℕ) (o : Option Node) → parent_by d (option_and_then (facts_in s d) o) ≡ parent_by d (option_and_then (facts_in t d) o)
same_parent s t d (Some (Dir parent opaque names)) = refl
same_parent s t d (Some (File bytes)) = refl
same_parent s t d (Some (Link target)) = refl
same_parent s t d None = refl

-- a directory is linked as its store says
pub linked_is : (t : Store) (d : ℕ) (o : Option Node) → linked_by (option_and_then (facts_in t d) o) ≡ true → is_linked_in t d ≡ true
linked_is t d (Some (Dir parent opaque names)) h = h
linked_is t d (Some (File bytes)) h = no_way h
linked_is t d (Some (Link target)) h = no_way h
linked_is t d None h = no_way h

pub is_linked : (t : Store) (d : ℕ) (o : Option Node) → option_map kind_of_node o ≡ Some kind.Dir → is_linked_in t d ≡ true → linked_by (option_and_then (facts_in t d) o) ≡ true
is_linked t d (Some (Dir parent opaque names)) dir h = h
is_linked t d (Some (File bytes)) dir h = absurd cc
is_linked t d (Some (Link target)) dir h = absurd cc
is_linked t d None dir h = absurd cc

pub linked_dir : (t : Store) (d : ℕ) (o : Option Node) → linked_by (option_and_then (facts_in t d) o) ≡ true → option_map kind_of_node o ≡ Some kind.Dir
linked_dir t d (Some (Dir parent opaque names)) h = refl
linked_dir t d (Some (File bytes)) h = no_way h
linked_dir t d (Some (Link target)) h = no_way h
linked_dir t d None h = no_way h

-- where no directory is, no name is
pub no_dir : (t : Store) (d : ℕ) (m : List ℕ) (o : Option Node) → (option_map kind_of_node o ≡ Some kind.Dir → ⊥) → entry_in m o ≡ None
no_dir t d m (Some (Dir parent opaque names)) h = absurd (h refl)
no_dir t d m (Some (File bytes)) h = refl
no_dir t d m (Some (Link target)) h = refl
no_dir t d m None h = refl

new_parent : (t : Store) (i u : ℕ) (node : Node) → IsFresh u node → option_map kind_of_node (Some node) ≡ Some kind.Dir → parent_by i (option_and_then (facts_in t i) (Some node)) ≡ u
new_parent t i u (Dir parent opaque names) h dir = h.0
new_parent t i u (File bytes) h dir = absurd cc
new_parent t i u (Link target) h dir = absurd cc

pub linked_way : (t : Store) (d : ℕ) → is_linked_in t d ≡ true → ((d == 1) ≡ true) ⊎ (is_named_in t d ≡ true)
linked_way t d h = by (d == 1) h
  where
    by : (b : Bool) → (b || is_named_in t d) ≡ true → (b ≡ true) ⊎ (is_named_in t d ≡ true)
    by true e = inl refl
    by false e = inr e

pub linked_root : (t : Store) (d : ℕ) → (d == 1) ≡ true → is_linked_in t d ≡ true
linked_root t d h = ap (λ b. b || is_named_in t d) h

pub linked_named : (t : Store) (d : ℕ) → is_named_in t d ≡ true → is_linked_in t d ≡ true
linked_named t d h = by (d == 1) (is_named_in t d) h
  where
    by : (a b : Bool) → b ≡ true → (a || b) ≡ true
    by true b e = refl
    by false b e = e

abbrev pub inode_of : Option NameEntry → ℕ
inode_of (Some (Ino i)) = i
inode_of (Some White) = 0
inode_of None = 0

abbrev pub name_or : Option (List ℕ) → List ℕ
name_or (Some n) = n
name_or None = []

pub no_node : (o : Option Node) (i : ℕ) → (IsSome o → i < i) → o ≡ None
no_node None i h = refl
no_node (Some x) i h = absurd (let less = h refl in omega (arith, less))

pub some_stays : (o r : Option Kind) → ((k : Kind) → o ≡ Some k → r ≡ Some k) → IsSome o → IsSome r
some_stays (Some k) r stay h = ap is_some (stay k refl)
some_stays None r stay h = no_way h

abbrev pub kind_at : Store → ℕ → Option Kind
kind_at t i = option_map kind_of_node (get t.nodes i)

module _ (t : Store) (u : ℕ) (n : List ℕ) (node : Node) (parent : ℕ) (opaque : Bool) (names : Names)
    (below : AreBelow t.nodes t.next) (at : get t.nodes u ≡ Some (Dir parent opaque names)) where
  abbrev new : Store
  new = made t u n node

  abbrev over : Node
  over = Dir parent opaque (insert names n (Ino t.next))

  pub unused : get t.nodes t.next ≡ None
  unused = no_node (get t.nodes t.next) t.next (below t.next)

  apart : u ≡ t.next → ⊥
  apart e = none_some unused (ap (get t.nodes) (sym e) ∙ at)

  still : get (insert t.nodes t.next node) u ≡ Some (Dir parent opaque names)
  still = by_key nat_cmp_total exact_unsigned t.nodes t.next node u (λ o. o ≡ Some (Dir parent opaque names)) (λ e. absurd (apart e)) at

  nodes : new.nodes ≡ insert (insert t.nodes t.next node) u over
  nodes = ap (with_node (with_names (λ names. insert names n (Ino t.next))) (insert t.nodes t.next node) u) still

  pub node_case : (d : ℕ) (P : Option Node → Type 0) → (d ≡ u → P (Some over)) → (d ≡ t.next → P (Some node)) → P (get t.nodes d) → P (get new.nodes d)
  node_case d P here there else =
      subst (λ (m : FinMap nat_cmp Node). P (get m d)) (sym nodes)
      (by_key nat_cmp_total exact_unsigned (insert t.nodes t.next node) u over d P here (by_key nat_cmp_total exact_unsigned t.nodes t.next node d P there else))

  pub node_new : get new.nodes t.next ≡ Some node
  node_new =
      ap (λ (m : FinMap nat_cmp Node). get m t.next) nodes
      ∙ by_key nat_cmp_total exact_unsigned (insert t.nodes t.next node) u over t.next (λ o. o ≡ Some node) (λ e. absurd (apart (sym e))) (get_at-insert nat_cmp_total t.nodes t.next node)

  pub entry_new : entry_of new u n ≡ Some (Ino t.next)
  entry_new =
      ap (λ (m : FinMap nat_cmp Node). entry_in n (get m u)) nodes ∙ ap (entry_in n) (get_at-insert nat_cmp_total (insert t.nodes t.next node) u over)
      ∙ get_at-insert nat_list_cmp_total names n (Ino t.next)

  module _ (linked : is_linked_in t u ≡ true) (free : is_given (get names n) ≡ false) (fresh : IsFresh u node) (sound : StoreNames t) where
    -- ---- what stands at a name

    entry_stays : (d : ℕ) (m : List ℕ) (j : ℕ) → entry_of t d m ≡ Some (Ino j) → entry_of new d m ≡ Some (Ino j)
    entry_stays d m j e =
        node_case d (λ o. entry_in m o ≡ Some (Ino j))
        (λ same. let own : get names m ≡ Some (Ino j) = sym (ap (entry_in m) (ap (get t.nodes) same ∙ at)) ∙ e in
        by_key nat_list_cmp_total exact_bytes names n (Ino t.next) m (λ o. o ≡ Some (Ino j)) (λ is. no_way (sym free ∙ ap is_given (sym (ap (get names) is) ∙ own))) own)
        (λ same. none_some (ap (entry_in m) (ap (get t.nodes) same ∙ unused)) e)
        e

    abbrev IsNew : ℕ → List ℕ → ℕ → Type 0
    IsNew d m j = (d ≡ u) × (m ≡ n) × (j ≡ t.next)

    entry_back : (d : ℕ) (m : List ℕ) (j : ℕ) → entry_of new d m ≡ Some (Ino j) → IsNew d m j ⊎ (entry_of t d m ≡ Some (Ino j))
    entry_back d m j =
        node_case d (λ o. entry_in m o ≡ Some (Ino j) → IsNew d m j ⊎ (entry_of t d m ≡ Some (Ino j)))
        (λ same. by_key nat_list_cmp_total exact_bytes names n (Ino t.next) m (λ o. o ≡ Some (Ino j) → IsNew d m j ⊎ (entry_of t d m ≡ Some (Ino j)))
        (λ is e. inl (same, is, sym (ap inode_of e)))
        (λ e. inr (ap (entry_in m) (ap (get t.nodes) same ∙ at) ∙ e)))
        (λ same e. none_some (fresh_names u node fresh m) e)
        (λ e. inr e)

    -- ---- kinds

    pub kind_stays : (i : ℕ) (k : Kind) → kind_at t i ≡ Some k → kind_at new i ≡ Some k
    kind_stays i k e =
        node_case i (λ o. option_map kind_of_node o ≡ Some k)
        (λ same. sym (ap (option_map kind_of_node) (ap (get t.nodes) same ∙ at)) ∙ e)
        (λ same. none_some (ap (option_map kind_of_node) (ap (get t.nodes) same ∙ unused)) e)
        e

    kind_back : (i : ℕ) (k : Kind) → kind_at new i ≡ Some k → (i ≡ t.next) ⊎ (kind_at t i ≡ Some k)
    kind_back i k =
        node_case i (λ o. option_map kind_of_node o ≡ Some k → (i ≡ t.next) ⊎ (kind_at t i ≡ Some k))
        (λ same e. inr (ap (option_map kind_of_node) (ap (get t.nodes) same ∙ at) ∙ e))
        (λ same e. inl same)
        (λ e. inr e)

    -- no name of the old store gives the new node
    dangling : {A : Type 0} (d j : ℕ) (m : List ℕ) → entry_of t d m ≡ Some (Ino j) → j ≡ t.next → A
    dangling d j m e is = no_way (sym (ap (λ o. is_some (option_map kind_of_node o)) (ap (get t.nodes) is ∙ unused)) ∙ sound.given d j m e)

    -- ---- links and parents

    linked_stays : (i : ℕ) → is_linked_in t i ≡ true → is_linked_in new i ≡ true
    linked_stays i h = elim (linked_way t i h) [
      | inl root ↦ linked_root new i root
      | inr named ↦ let x = named_from t i named in linked_named new i (named_to new i x.dir x.name (entry_stays x.dir x.name i x.entry))
    ]

    linked_back : (i : ℕ) → is_linked_in new i ≡ true → (i ≡ t.next) ⊎ (is_linked_in t i ≡ true)
    linked_back i h = elim (linked_way new i h) [
      | inl root ↦ inr (linked_root t i root)
      | inr named ↦ let x = named_from new i named in elim (entry_back x.dir x.name i x.entry) as (λ _. (i ≡ t.next) ⊎ (is_linked_in t i ≡ true)) [
        | inl e ↦ inl e.2
        | inr e ↦ inr (linked_named t i (named_to t i x.dir x.name e))
      ]
    ]

    parent_stays : (d : ℕ) → (parent_by d (dir_in new d) ≡ parent_by d (dir_in t d)) ⊎ (d ≡ t.next)
    parent_stays d =
        node_case d (λ o. (parent_by d (option_and_then (facts_in new d) o) ≡ parent_by d (dir_in t d)) ⊎ (d ≡ t.next))
        (λ same. inl (sym (ap (λ o. parent_by d (option_and_then (facts_in t d) o)) (ap (get t.nodes) same ∙ at))))
        (λ same. inr same)
        (inl (same_parent new t d (get t.nodes d)))

    -- the new directory lies in the one whose name gives it
    parent_new : (i : ℕ) → i ≡ t.next → kind_at new i ≡ Some kind.Dir → parent_by i (dir_in new i) ≡ u
    parent_new i is dir =
        let here : get new.nodes i ≡ Some node = ap (get new.nodes) is ∙ node_new in
        ap (λ o. parent_by i (option_and_then (facts_in new i) o)) here ∙ new_parent new i u node fresh (sym (ap (option_map kind_of_node) here) ∙ dir)

    climbs : (k d : ℕ) → climb k (dir_in t) d ≡ 1 → LeadsUp (dir_in new) d
    climbs zero d e = record { steps = 0; root = e }
    climbs (suc k) d e =
        let up = climbs k (parent_by d (dir_in t d)) e in
        elim (parent_stays d) as (λ _. LeadsUp (dir_in new) d) [
          | inl same ↦ record { steps = suc up.steps; root = ap (climb up.steps (dir_in new)) same ∙ up.root }
          | inr is ↦ subst (LeadsUp (dir_in new)) (ap (λ o. parent_by d (option_and_then (facts_in t d) o)) (ap (get t.nodes) is ∙ unused)) up
        ]

    led : (i : ℕ) → kind_at t i ≡ Some kind.Dir → is_linked_in t i ≡ true → LeadsUp (dir_in new) i
    led i dir h = let up = sound.lead i (is_linked t i (get t.nodes i) dir h) in climbs up.steps i up.root

    lead : (i : ℕ) → linked_by (dir_in new i) ≡ true → LeadsUp (dir_in new) i
    lead i h =
        let dir = linked_dir new i (get new.nodes i) h in
        elim (kind_back i kind.Dir dir) as (λ _. LeadsUp (dir_in new) i) [
          | inl is ↦ let up = led u (ap (option_map kind_of_node) at) linked in
              record { steps = suc up.steps; root = ap (climb up.steps (dir_in new)) (parent_new i is dir) ∙ up.root }
          | inr old ↦ elim (linked_back i (linked_is new i (get new.nodes i) h)) as (λ _. LeadsUp (dir_in new) i) [
            | inl is ↦ none_some (ap (option_map kind_of_node) (ap (get t.nodes) is ∙ unused)) old
            | inr l ↦ led i old l
          ]
        ]

    -- ---- directories that aren't linked

    removed_before : (d : ℕ) (m : List ℕ) (b : Bool) → linked_by (dir_in t d) ≡ b → linked_by (option_and_then (facts_in new d) (get t.nodes d)) ≡ false → entry_of t d m ≡ None
    removed_before d m false is h = sound.removed d m is
    removed_before d m true is h =
        no_way (sym h ∙ is_linked new d (get t.nodes d) (linked_dir t d (get t.nodes d) is) (linked_stays d (linked_is t d (get t.nodes d) is)))

    removed : (d : ℕ) (m : List ℕ) → linked_by (dir_in new d) ≡ false → entry_of new d m ≡ None
    removed d m =
        node_case d (λ o. linked_by (option_and_then (facts_in new d) o) ≡ false → entry_in m o ≡ None)
        (λ same h. no_way (sym h ∙ ap (is_linked_in new) same ∙ linked_stays u linked))
        (λ same h. fresh_names u node fresh m)
        (removed_before d m (linked_by (dir_in t d)) refl)

    -- ---- what names give

    given : (d i : ℕ) (m : List ℕ) → entry_of new d m ≡ Some (Ino i) → IsSome (kind_at new i)
    given d i m e = elim (entry_back d m i e) as (λ _. IsSome (kind_at new i)) [
      | inl x ↦ ap (λ o. is_some (option_map kind_of_node o)) (ap (get new.nodes) x.2 ∙ node_new)
      | inr old ↦ some_stays (kind_at t i) (kind_at new i) (kind_stays i) (sound.given d i m old)
    ]

    old_dir : (d j : ℕ) (m : List ℕ) → entry_of t d m ≡ Some (Ino j) → kind_at new j ≡ Some kind.Dir → kind_at t j ≡ Some kind.Dir
    old_dir d j m e dir = elim (kind_back j kind.Dir dir) as (λ _. kind_at t j ≡ Some kind.Dir) [ inl is ↦ dangling d j m e is | inr old ↦ old ]

    its_parent : (d j : ℕ) (m : List ℕ) → entry_of new d m ≡ Some (Ino j) → kind_at new j ≡ Some kind.Dir → (j == 1) ≡ false → d ≡ parent_by j (dir_in new j)
    its_parent d j m e dir other = elim (entry_back d m j e) as (λ _. d ≡ parent_by j (dir_in new j)) [
      | inl x ↦ x.0 ∙ sym (parent_new j x.2 dir)
      | inr old ↦ elim (parent_stays j) as (λ _. d ≡ parent_by j (dir_in new j)) [
        | inl same ↦ (sound.once d j m old (old_dir d j m old dir) other).0 ∙ sym same
        | inr is ↦ dangling d j m old is
      ]
    ]

    its_name : (d j : ℕ) (m k : List ℕ) → entry_of new d m ≡ Some (Ino j) → entry_of new d k ≡ Some (Ino j) → kind_at new j ≡ Some kind.Dir → (j == 1) ≡ false → k ≡ m
    its_name d j m k e f dir other = elim (entry_back d m j e) as (λ _. k ≡ m) [
      | inl x ↦ elim (entry_back d k j f) as (λ _. k ≡ m) [ inl y ↦ y.1 ∙ sym x.1 | inr old ↦ dangling d j k old x.2 ]
      | inr old ↦ elim (entry_back d k j f) as (λ _. k ≡ m) [
        | inl y ↦ dangling d j m old y.2
        | inr also ↦ ap name_or (sym (sound.once d j k also (old_dir d j k also dir) other).1 ∙ (sound.once d j m old (old_dir d j m old dir) other).1)
      ]
    ]

    once : (d j : ℕ) (m : List ℕ) → entry_of new d m ≡ Some (Ino j) → kind_at new j ≡ Some kind.Dir → (j == 1) ≡ false → (d ≡ parent_by j (dir_in new j)) × (dir_name new j ≡ Some m)
    once d j m e dir other =
        let p = its_parent d j m e dir other in
        (p, name_is new j m dir (subst (λ x. entry_of new x m ≡ Some (Ino j)) p e) (λ k f. its_name d j m k e (subst (λ x. entry_of new x k ≡ Some (Ino j)) (sym p) f) dir other))

    -- the names of the store with the new node are sound
    pub made_names : StoreNames new
    made_names = record { lead = lead; removed = removed; given = given; once = once }

    -- ---- numbers and parents

    pub made_below : AreBelow new.nodes new.next
    made_below i =
        node_case i (λ o. IsSome o → i < t.next + 1)
        (λ same _. let less : u < t.next = below u (ap is_some at) in omega (arith, less, same))
        (λ same _. omega (arith, same))
        (λ there. let less : i < t.next = below i there in omega (arith, less))

    parents_stay : (i : ℕ) (o : Option Node) → IfSome (option_and_then (facts_in t i) o) (λ d. IsSome (kind_at t d.parent)) → IfSome (option_and_then (facts_in new i) o) (λ d. IsSome (kind_at new d.parent))
    parents_stay i (Some (Dir p o ns)) h = some_stays (kind_at t p) (kind_at new p) (kind_stays p) h
    parents_stay i (Some (File bytes)) h = tt
    parents_stay i (Some (Link target)) h = tt
    parents_stay i None h = tt

    fresh_parent : (i : ℕ) (x : Node) → IsFresh u x → IfSome (option_and_then (facts_in new i) (Some x)) (λ d. IsSome (kind_at new d.parent))
    fresh_parent i (Dir p o ns) h = ap (λ q. is_some (kind_at new q)) h.0 ∙ ap is_some (kind_stays u kind.Dir (ap (option_map kind_of_node) at))
    fresh_parent i (File bytes) h = tt
    fresh_parent i (Link target) h = tt

    -- the parent of each directory is there
    pub made_parents : ((i : ℕ) → IfSome (dir_in t i) (λ d. IsSome (kind_at t d.parent))) → (i : ℕ) → IfSome (dir_in new i) (λ d. IsSome (kind_at new d.parent))
    made_parents h i =
        node_case i (λ o. IfSome (option_and_then (facts_in new i) o) (λ d. IsSome (kind_at new d.parent)))
        (λ same. let own : IsSome (kind_at t parent) = subst (λ o. IfSome (option_and_then (facts_in t u) o) (λ d. IsSome (kind_at t d.parent))) at (h u) in
        some_stays (kind_at t parent) (kind_at new parent) (kind_stays parent) own)
        (λ same. fresh_parent i node fresh)
        (parents_stay i (get t.nodes i) (h i))
