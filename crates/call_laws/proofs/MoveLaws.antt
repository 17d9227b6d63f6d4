-- The names of a store stay sound where a directory is moved.
use Rattle.std.proofs.Common.{◌≡◌, ℕ, zero, suc, ◌≤◌, ◌<◌, ◌⊎◌, inl, inr, Bool, true, false, ◌==◌, ◌||◌, List, refl, ap, sym, ◌∙◌, subst, eqb-true, eq-eqb}
use Rattle.std.specs.Prelude.{Option, Some, None, IsSome, IfSome, is_some, option_map, option_and_then}
use Rattle.std.specs.Cmp.{nat_cmp_total}
use Rattle.std.specs.Cmp.Lexicographic.{nat_list_cmp_total}
use Rattle.std.specs.FinMap.{get, insert, remove}
use Rattle.finite_maps.proofs.EntryLaws.{get_at-insert}
use Rattle.vfs_tree.specs.Edits.{with_names, with_node}
use Rattle.vfs_tree.specs.Layers.{linked_by, parent_by}
use Rattle.vfs_tree.specs.Nodes.{entry_in, is_white, is_given, AreBelow}
use Rattle.vfs_tree.specs.Sound.{climb, LeadsUp}
use Rattle.vfs_tree.specs.StoreEdits.{entry_of, with_node_at, drop_entry, moved, renamed_to, renamed}
use Rattle.vfs_tree.specs.Views.{kind_of_node, is_linked_in, facts_in, dir_in, dir_name}
use Rattle.vfs_tree.specs.declared.node.Kind.TheVariants as kind
use Rattle.vfs_tree.specs.declared.node.NameEntry.{NameEntry}
use Rattle.vfs_tree.specs.declared.node.NameEntry.TheVariants.{Ino, White}
use Rattle.vfs_tree.specs.declared.node.Node.{Node}
use Rattle.vfs_tree.specs.declared.node.Node.TheVariants.{Dir, File, Link}
use Rattle.vfs_tree.specs.declared.node.Store.{Store}
use Rattle.vfs_tree.specs.declared.view.DirFacts.{DirFacts}
use Rattle.call_laws.proofs.ClimbLaws.{Avoids, AvoidsUp}
use Rattle.call_laws.proofs.DropLaws as moves
use Rattle.call_laws.proofs.DropLaws.{AreAlike, alike_through, alike_emptied, alike_drop, alike_set, at_node, set_case, drop_case, emptied_case, emptied_at, set_at, moved_kinds, moved_entry, some_kind, kind_some, dir_there, parent_there, white_ino, none_ino}
use Rattle.call_laws.proofs.MadeLaws.{kind_at, none_some, same_parent, linked_is, is_linked, linked_dir, linked_way, linked_root, linked_named, inode_of, name_or}
use Rattle.call_laws.proofs.NamedLaws.{no_way, named_from, named_to, name_is}
use Rattle.call_laws.proofs.WeightLaws.{get_at-remove}
use Rattle.call_laws.proofs.WholeLaws.{IsWell, IsKept}

-- ---- a directory gets a new name and a new parent

module _ (t new : Store) (well : IsWell t) (x to : ℕ) (n : List ℕ) (Gone : ℕ → Type 0)
    (kinds : (d : ℕ) → kind_at new d ≡ kind_at t d) (next : new.next ≡ t.next)
    (parents : (d : ℕ) → (d ≡ x → ⊥) → parent_by d (dir_in new d) ≡ parent_by d (dir_in t d)) (parent_x : parent_by x (dir_in new x) ≡ to)
    (dir_x : kind_at t x ≡ Some kind.Dir) (dir_to : kind_at t to ≡ Some kind.Dir) (up : AvoidsUp (dir_in t) x to)
    (given : (d i : ℕ) (m : List ℕ) → entry_of new d m ≡ Some (Ino i) → ((d ≡ to) × (m ≡ n) × (i ≡ x)) ⊎ ((entry_of t d m ≡ Some (Ino i)) × (i ≡ x → ⊥)))
    (stays : (d i : ℕ) (m : List ℕ) → entry_of t d m ≡ Some (Ino i) → Gone i ⊎ ((i ≡ x) ⊎ (entry_of new d m ≡ Some (Ino i))))
    (put : entry_of new to n ≡ Some (Ino x))
    (quiet : (d : ℕ) (m : List ℕ) → linked_by (dir_in t d) ≡ false → entry_of new d m ≡ None)
    (bare : (d : ℕ) (m : List ℕ) → Gone d → entry_of new d m ≡ None) where
  past : (k d : ℕ) → Avoids (dir_in t) x k d → climb k (dir_in new) d ≡ 1
  past zero d a = a.0
  past (suc k) d a = ap (climb k (dir_in new)) (parents d a.0) ∙ past k (parent_by d (dir_in t d)) a.1

  -- the moved directory leads up through its new parent
  own_way : LeadsUp (dir_in new) x
  own_way = record { steps = suc up.steps; root = ap (climb up.steps (dir_in new)) parent_x ∙ past up.steps to up.way }

  other_than : (d : ℕ) → (d == x) ≡ false → d ≡ x → ⊥
  other_than d e is = no_way (sym e ∙ eq-eqb d x is)

  ways : (k d : ℕ) → climb k (dir_in t) d ≡ 1 → LeadsUp (dir_in new) d
  ways zero d e = record { steps = 0; root = e }
  ways (suc k) d e =
      let above = ways k (parent_by d (dir_in t d)) e in
      elim (d == x) as (λ b. (d == x) ≡ b → LeadsUp (dir_in new) d) [
        | true ↦ λ is. subst (LeadsUp (dir_in new)) (sym (eqb-true d x is)) own_way
        | false ↦ λ is. record { steps = suc above.steps; root = ap (climb above.steps (dir_in new)) (parents d (other_than d is)) ∙ above.root }
      ] refl

  dir_before : (i : ℕ) → kind_at new i ≡ Some kind.Dir → kind_at t i ≡ Some kind.Dir
  dir_before i dir = sym (kinds i) ∙ dir

  old_link : (i : ℕ) → is_linked_in new i ≡ true → (i ≡ x) ⊎ (is_linked_in t i ≡ true)
  old_link i h = elim (linked_way new i h) as (λ _. (i ≡ x) ⊎ (is_linked_in t i ≡ true)) [
    | inl root ↦ inr (linked_root t i root)
    | inr named ↦ let y = named_from new i named in elim (given y.dir i y.name y.entry) as (λ _. (i ≡ x) ⊎ (is_linked_in t i ≡ true)) [
      | inl e ↦ inl e.2
      | inr e ↦ inr (linked_named t i (named_to t i y.dir y.name e.0))
    ]
  ]

  moved_lead : (i : ℕ) → linked_by (dir_in new i) ≡ true → LeadsUp (dir_in new) i
  moved_lead i h =
      let dir = dir_before i (linked_dir new i (get new.nodes i) h) in
      elim (old_link i (linked_is new i (get new.nodes i) h)) as (λ _. LeadsUp (dir_in new) i) [
        | inl is ↦ subst (LeadsUp (dir_in new)) (sym is) own_way
        | inr l ↦ let above = well.names.lead i (is_linked t i (get t.nodes i) dir l) in ways above.steps i above.root
      ]

  lost : (d : ℕ) (m : List ℕ) → is_linked_in t d ≡ true → kind_at t d ≡ Some kind.Dir → linked_by (dir_in new d) ≡ false → entry_of new d m ≡ None
  lost d m h dir off =
      let now : is_linked_in new d ≡ true → entry_of new d m ≡ None = λ l. no_way (sym off ∙ is_linked new d (get new.nodes d) (kinds d ∙ dir) l) in
      elim (linked_way t d h) as (λ _. entry_of new d m ≡ None) [
        | inl root ↦ now (linked_root new d root)
        | inr named ↦ let y = named_from t d named in elim (stays y.dir d y.name y.entry) as (λ _. entry_of new d m ≡ None) [
          | inl gone ↦ bare d m gone
          | inr r ↦ elim r as (λ _. entry_of new d m ≡ None) [
            | inl is ↦ now (linked_named new d (named_to new d to n (subst (λ z. entry_of new to n ≡ Some (Ino z)) (sym is) put)))
            | inr e ↦ now (linked_named new d (named_to new d y.dir y.name e))
          ]
        ]
      ]

  moved_removed : (d : ℕ) (m : List ℕ) (b : Bool) → linked_by (dir_in t d) ≡ b → linked_by (dir_in new d) ≡ false → entry_of new d m ≡ None
  moved_removed d m false is off = quiet d m is
  moved_removed d m true is off = lost d m (linked_is t d (get t.nodes d) is) (linked_dir t d (get t.nodes d) is) off

  moved_given : (d i : ℕ) (m : List ℕ) → entry_of new d m ≡ Some (Ino i) → IsSome (kind_at new i)
  moved_given d i m e =
      ap is_some (kinds i) ∙ elim (given d i m e) as (λ _. IsSome (kind_at t i)) [ inl new ↦ ap (λ z. is_some (kind_at t z)) new.2 ∙ ap is_some dir_x | inr old ↦ well.names.given d i m old.0 ]

  its_parent : (d i : ℕ) (m : List ℕ) → entry_of new d m ≡ Some (Ino i) → kind_at new i ≡ Some kind.Dir → (i == 1) ≡ false → d ≡ parent_by i (dir_in new i)
  its_parent d i m e dir other = elim (given d i m e) as (λ _. d ≡ parent_by i (dir_in new i)) [
    | inl y ↦ y.0 ∙ sym (ap (λ z. parent_by z (dir_in new z)) y.2 ∙ parent_x)
    | inr y ↦ (well.names.once d i m y.0 (dir_before i dir) other).0 ∙ sym (parents i y.1)
  ]

  its_name : (d i : ℕ) (m k : List ℕ) → entry_of new d m ≡ Some (Ino i) → entry_of new d k ≡ Some (Ino i) → kind_at new i ≡ Some kind.Dir → (i == 1) ≡ false → k ≡ m
  its_name d i m k e f dir other = elim (given d i m e) as (λ _. k ≡ m) [
    | inl y ↦ elim (given d i k f) as (λ _. k ≡ m) [ inl z ↦ z.1 ∙ sym y.1 | inr z ↦ absurd (z.1 y.2) ]
    | inr y ↦ elim (given d i k f) as (λ _. k ≡ m) [
      | inl z ↦ absurd (y.1 z.2)
      | inr z ↦ ap name_or (sym (well.names.once d i k z.0 (dir_before i dir) other).1 ∙ (well.names.once d i m y.0 (dir_before i dir) other).1)
    ]
  ]

  moved_once : (d i : ℕ) (m : List ℕ) → entry_of new d m ≡ Some (Ino i) → kind_at new i ≡ Some kind.Dir → (i == 1) ≡ false → (d ≡ parent_by i (dir_in new i)) × (dir_name new i ≡ Some m)
  moved_once d i m e dir other =
      let p = its_parent d i m e dir other in
      (p, name_is new i m dir (subst (λ z. entry_of new z m ≡ Some (Ino i)) p e) (λ k f. its_name d i m k e (subst (λ z. entry_of new z k ≡ Some (Ino i)) (sym p) f) dir other))

  known_parent : (i : ℕ) (o : Option DirFacts) → dir_in new i ≡ o → IsSome (kind_at new (parent_by i (dir_in new i))) → IfSome o (λ d. IsSome (kind_at new d.parent))
  known_parent i (Some d) e h = ap (λ o. is_some (kind_at new (parent_by i o))) (sym e) ∙ h
  known_parent i None e h = tt

  moved_parents : (i : ℕ) (o : Option DirFacts) → dir_in new i ≡ o → IfSome o (λ d. IsSome (kind_at new d.parent))
  moved_parents i None e = tt
  moved_parents i (Some d) e =
      let there : IsSome (kind_at t i) = ap is_some (sym (kinds i)) ∙ dir_there new i (get new.nodes i) d e in
      known_parent i (Some d) e (elim (i == x) as (λ b. (i == x) ≡ b → IsSome (kind_at new (parent_by i (dir_in new i)))) [
        | true ↦ λ is. ap (λ z. is_some (kind_at new (parent_by z (dir_in new z)))) (eqb-true i x is) ∙ ap (λ z. is_some (kind_at new z)) parent_x ∙ ap is_some (kinds to) ∙ ap is_some dir_to
        | false ↦ λ is. ap (λ z. is_some (kind_at new z)) (parents i (other_than i is)) ∙ ap is_some (kinds (parent_by i (dir_in t i))) ∙ parent_there t i (well.parents i) there
      ] refl)

  still_below : AreBelow new.nodes new.next
  still_below i there = subst (λ z. i < z) (sym next) (well.below i (some_kind (get t.nodes i) (ap is_some (sym (kinds i)) ∙ kind_some (get new.nodes i) there)))

  -- the store keeps all that it should
  pub moved_kept : IsKept t new
  moved_kept = record {
    well = record {
      names = record { lead = moved_lead; removed = λ d m off. moved_removed d m (linked_by (dir_in t d)) refl off; given = moved_given; once = moved_once };
      below = still_below;
      most = subst (λ z. z ≤ 4294967295) (sym next) well.most;
      parents = λ i. moved_parents i (dir_in new i) refl;
    };
    kinds = λ i k e. kinds i ∙ e;
  }

-- ---- rename of a directory

white_node : (m : List ℕ) (node : Node) → is_given (entry_in m (Some (with_names (λ names. insert names m White) node))) ≡ false
white_node m (Dir parent opaque names) = ap is_given (get_at-insert nat_list_cmp_total names m White)
white_node m (File bytes) = refl
white_node m (Link target) = refl

clear_node : (m : List ℕ) (node : Node) → is_given (entry_in m (Some (with_names (λ names. remove names m) node))) ≡ false
clear_node m (Dir parent opaque names) = ap is_given (get_at-remove nat_list_cmp_total names m)
clear_node m (File bytes) = refl
clear_node m (Link target) = refl

edited_node : (g : Node → Node) (t : Store) (u : ℕ) (m : List ℕ) → ((node : Node) → is_given (entry_in m (Some (g node))) ≡ false) → (o : Option Node) → get t.nodes u ≡ o → is_given (entry_in m (get (with_node g t.nodes u o) u)) ≡ false
edited_node g t u m h (Some node) at = ap (λ o. is_given (entry_in m o)) (get_at-insert nat_cmp_total t.nodes u (g node)) ∙ h node
edited_node g t u m h None at = ap (λ o. is_given (entry_in m o)) at

-- a name that is dropped gives nothing
dropped_at : (white : Bool) (t : Store) (u : ℕ) (m : List ℕ) → is_given (entry_of (drop_entry white t u m) u m) ≡ false
dropped_at true t u m = edited_node (with_names (λ names. insert names m White)) t u m (white_node m) (get t.nodes u) refl
dropped_at false t u m = edited_node (with_names (λ names. remove names m)) t u m (clear_node m) (get t.nodes u) refl

parent_node : (p : ℕ) (hides : Bool) (s : Store) (x : ℕ) (node : Node) → option_map kind_of_node (Some node) ≡ Some kind.Dir → parent_by x (option_and_then (facts_in s x) (Some (moved p hides node))) ≡ p
parent_node p hides s x (Dir parent opaque names) dir = refl
parent_node p hides s x (File bytes) dir = absurd cc
parent_node p hides s x (Link target) dir = absurd cc

moved_parent : (p : ℕ) (hides : Bool) (t : Store) (x : ℕ) → kind_at t x ≡ Some kind.Dir → parent_by x (dir_in (with_node_at (moved p hides) t x) x) ≡ p
moved_parent p hides t x dir = by (get t.nodes x) refl
  where
    by : (o : Option Node) → get t.nodes x ≡ o → parent_by x (option_and_then (facts_in (with_node_at (moved p hides) t x) x) (get (with_node (moved p hides) t.nodes x o) x)) ≡ p
    by (Some node) at =
        ap (λ o. parent_by x (option_and_then (facts_in (with_node_at (moved p hides) t x) x) o)) (get_at-insert nat_cmp_total t.nodes x (moved p hides node))
        ∙ parent_node p hides (with_node_at (moved p hides) t x) x node (sym (ap (option_map kind_of_node) at) ∙ dir)
    by None at = none_some (ap (option_map kind_of_node) at) dir

module _ (t : Store) (white hides : Bool) (from : ℕ) (old : List ℕ) (to : ℕ) (n : List ℕ) (x : ℕ) (well : IsWell t) (at : entry_of t from old ≡ Some (Ino x)) (dir : kind_at t x ≡ Some kind.Dir) (other : (x == 1) ≡ false)
    (linked_from : linked_by (dir_in t from) ≡ true) (linked_to : linked_by (dir_in t to) ≡ true) (up : AvoidsUp (dir_in t) x to)
    (target : (j : ℕ) → entry_of t to n ≡ Some (Ino j) → (i : ℕ) (m : List ℕ) → entry_of t j m ≡ Some (Ino i) → ⊥) where
  abbrev one : Store
  one = moves.one t white hides from old to n x

  abbrev two : Store
  two = moves.two t white hides from old to n x

  abbrev three : Store
  three = moves.three t white hides from old to n x

  abbrev four : Store
  four = moves.four t white hides from old to n x

  alike_three : AreAlike t three
  alike_three = moves.alike_three t white hides from old to n x

  dir_to : kind_at t to ≡ Some kind.Dir
  dir_to = linked_dir t to (get t.nodes to) linked_to

  abbrev IsPut : ℕ → List ℕ → ℕ → Type 0
  IsPut d m i = (d ≡ to) × (m ≡ n) × (i ≡ x)

  -- the old name gives it only where it is the new one
  at_old : entry_of four from old ≡ Some (Ino x) → (from ≡ to) × (old ≡ n)
  at_old e =
      set_case two to n (Ino x) from old (λ o. o ≡ Some (Ino x) → (from ≡ to) × (old ≡ n)) (λ p q _. (p, q)) (λ f. no_way (sym (dropped_at white one from old) ∙ ap is_given f))
      (sym (moved_entry to hides three x from old) ∙ e)

  only_old : (d : ℕ) (m : List ℕ) → entry_of t d m ≡ Some (Ino x) → (d ≡ from) × (m ≡ old)
  only_old d m e =
      let a = well.names.once d x m e dir other in
      let b = well.names.once from x old at dir other in
      (a.0 ∙ sym b.0, ap name_or (sym a.1 ∙ b.1))

  given_case : (d i : ℕ) (m : List ℕ) → entry_of four d m ≡ Some (Ino i) → (b : Bool) → (i == x) ≡ b → IsPut d m i ⊎ (entry_of t d m ≡ Some (Ino i)) → IsPut d m i ⊎ ((entry_of t d m ≡ Some (Ino i)) × (i ≡ x → ⊥))
  given_case d i m e b eq (inl p) = inl p
  given_case d i m e true eq (inr f) =
      let is : i ≡ x = eqb-true i x eq in
      let o = only_old d m (f ∙ ap (λ z. Some (Ino z)) is) in
      let p = at_old (sym (ap (λ z. entry_of four z old) o.0) ∙ sym (ap (entry_of four d) o.1) ∙ e ∙ ap (λ z. Some (Ino z)) is) in
      inl (o.0 ∙ p.0, o.1 ∙ p.1, is)
  given_case d i m e false eq (inr f) = inr (f, λ is. no_way (sym eq ∙ eq-eqb i x is))

  dir_given : (d i : ℕ) (m : List ℕ) → entry_of four d m ≡ Some (Ino i) → IsPut d m i ⊎ ((entry_of t d m ≡ Some (Ino i)) × (i ≡ x → ⊥))
  dir_given d i m e =
      given_case d i m e (i == x) refl
      (moves.cases t white hides from old to n x d m (λ o. o ≡ Some (Ino i) → IsPut d m i ⊎ (entry_of t d m ≡ Some (Ino i))) (λ p q e. inl (p, q, sym (ap inode_of e))) (λ _ _ e. white_ino e) (λ _ _ e. none_ino e) (λ _ _ _ e. none_ino e) (λ e. inr e) e)

  abbrev Replaced : ℕ → Type 0
  Replaced y = entry_of t to n ≡ Some (Ino y)

  dir_stays : (d i : ℕ) (m : List ℕ) → entry_of t d m ≡ Some (Ino i) → Replaced i ⊎ ((i ≡ x) ⊎ (entry_of four d m ≡ Some (Ino i)))
  dir_stays d i m e =
      let on : (o : Option NameEntry) → d ≡ from → m ≡ old → Replaced i ⊎ ((i ≡ x) ⊎ (o ≡ Some (Ino i))) = λ o p q.
      inr (inl (ap inode_of (sym e ∙ ap (entry_of t d) q ∙ ap (λ z. entry_of t z old) p ∙ at))) in
      moves.cases t white hides from old to n x d m (λ o. Replaced i ⊎ ((i ≡ x) ⊎ (o ≡ Some (Ino i)))) (λ p q. inl (sym (ap (λ z. entry_of t z n) p) ∙ sym (ap (entry_of t d) q) ∙ e)) (on (Some White)) (on None)
      (λ j is same. absurd (target j is i m (sym (ap (λ z. entry_of t z m) same) ∙ e))) (inr (inr e))

  dir_quiet : (d : ℕ) (m : List ℕ) → linked_by (dir_in t d) ≡ false → entry_of four d m ≡ None
  dir_quiet d m off =
      moves.cases t white hides from old to n x d m (λ o. o ≡ None) (λ p _. no_way (sym off ∙ ap (λ z. linked_by (dir_in t z)) p ∙ linked_to)) (λ p _. no_way (sym off ∙ ap (λ z. linked_by (dir_in t z)) p ∙ linked_from)) (λ _ _. refl)
      (λ _ _ _. refl) (well.names.removed d m off)

  dir_bare : (d : ℕ) (m : List ℕ) → Replaced d → entry_of four d m ≡ None
  dir_bare d m gone =
      moved_entry to hides three x d m
      ∙ set_case two to n (Ino x) d m (λ o. o ≡ None) (λ p _. absurd (target d gone d n (ap (λ z. entry_of t z n) p ∙ gone)))
      (drop_case white one from old d m (λ o. o ≡ None) (λ p _. absurd (target d gone x old (ap (λ z. entry_of t z old) p ∙ at))) (λ _ _. refl) (emptied_at t (entry_of t to n) d m gone))

  dir_parents : (d : ℕ) → (d ≡ x → ⊥) → parent_by d (dir_in four d) ≡ parent_by d (dir_in t d)
  dir_parents d ne =
      at_node (moved to hides) three x d (λ o. parent_by d (option_and_then (facts_in four d) o) ≡ parent_by d (dir_in three d)) (λ node same _. absurd (ne same)) (same_parent four three d (get three.nodes d))
      ∙ alike_three.parents d

  moved_dir : IsKept t four
  moved_dir =
      moved_kept t four well x to n Replaced (λ d. moved_kinds to hides three x d ∙ alike_three.kinds d) alike_three.next dir_parents (moved_parent to hides three x (alike_three.kinds x ∙ dir)) dir dir_to up
      dir_given dir_stays (moved_entry to hides three x to n ∙ set_at two to n (Ino x) ((moves.alike_two t white hides from old to n x).kinds to ∙ dir_to)) dir_quiet dir_bare

  -- a directory is moved to a name of a linked directory that isn't below it
  pub renamed_dir : (opaque : Bool) → hides ≡ (opaque || is_white (entry_of t to n)) → IsKept t (renamed white opaque t from old to n)
  renamed_dir opaque is =
      subst (λ o. IsKept t (renamed_to two to n (opaque || is_white (entry_of t to n)) o)) (sym at)
      (subst (λ b. IsKept t (with_node_at (moved to b) three x)) is moved_dir)
