-- What a store shows after a node is made at one of its names.
use Rattle.std.proofs.Common.{◌≡◌, ℕ, ◌+◌, Bool, true, false, cond, ◌==◌, List, [], ◌∷◌, refl, ap, sym, ◌∙◌, subst, eqb-true, eq-eqb}
use Rattle.std.specs.Prelude.{Option, Some, None, IsSome, is_some, option_map, option_and_then}
use Rattle.std.specs.Cmp.{nat_cmp_total}
use Rattle.std.specs.FinMap.{get, insert}
use Rattle.std.proofs.lemmas.Map.Lookups.{exact_unsigned}
use Rattle.finite_maps.proofs.EntryLaws.{by_key, get_at-insert}
use Rattle.vfs_tree.specs.Edits.{made, with_made, with_store}
use Rattle.vfs_tree.specs.Layers.{linked_by, parent_by, is_linked}
use Rattle.vfs_tree.specs.Nodes.{entry_in, is_given, AreBelow, next_of}
use Rattle.vfs_tree.specs.StoreEdits.{entry_of}
use Rattle.vfs_tree.specs.Views.{kind_of_node, target_in, is_linked_in, dir_in, dir_name, facts_of}
use Rattle.vfs_tree.specs.declared.node.Kind.TheVariants as kind
use Rattle.vfs_tree.specs.declared.node.NameEntry.TheVariants.{Ino}
use Rattle.vfs_tree.specs.declared.node.Node.{Node}
use Rattle.vfs_tree.specs.declared.node.Node.TheVariants.{Dir, File, Link}
use Rattle.vfs_tree.specs.declared.node.Store.{Store}
use Rattle.vfs_tree.specs.declared.world.World.{World}
use Rattle.call_model.specs.NameEdits.{Edit, SetName, NewDir, NewFile, NewLink, edited_by}
use Rattle.call_laws.proofs.MadeLaws.{IsFresh, kind_at, linked_dir, none_some, fresh_names, no_node}
use Rattle.call_laws.proofs.NameLaws.{entry_is, link_is}
use Rattle.call_laws.proofs.NamedLaws.{no_way}
use Rattle.call_laws.proofs.Whole.{IsWhole}
use Rattle.call_laws.proofs.WholeLaws.{IsWell, well_store}
use Rattle.edit_laws.proofs.NameViews.{set_view}
use Rattle.edit_laws.proofs.StoreViews.{view_in, same_parts, shown_after, set_entry_at, IsIn, edited_store}
use Rattle.edit_laws.proofs.Touched.{known, dir_known, Same, NoName, unnamed, no_dir_name, same_dir, same_name}

-- the edit that makes a node
abbrev pub new_edit : ℕ → ℕ → Node → Edit
new_edit s i (Dir parent opaque names) = NewDir s i parent opaque
new_edit s i (File bytes) = NewFile s i
new_edit s i (Link target) = NewLink s i target

new_in : (s i : ℕ) (node : Node) → IsIn s (new_edit s i node)
new_in s i (Dir parent opaque names) = refl
new_in s i (File bytes) = refl
new_in s i (Link target) = refl

-- ---- a node that no name gives yet

module _ (t : Store) (u : ℕ) (node : Node) (below : AreBelow t.nodes t.next) (fresh : IsFresh u node) (given : (d i : ℕ) (m : List ℕ) → entry_of t d m ≡ Some (Ino i) → IsSome (kind_at t i)) where
  abbrev grown : Store
  grown = record { nodes = insert t.nodes t.next node; next = t.next + 1 }

  unused : get t.nodes t.next ≡ None
  unused = no_node (get t.nodes t.next) t.next (below t.next)

  here : get grown.nodes t.next ≡ Some node
  here = get_at-insert nat_cmp_total t.nodes t.next node

  there : (i : ℕ) → (t.next == i) ≡ false → get grown.nodes i ≡ get t.nodes i
  there i off = by_key nat_cmp_total exact_unsigned t.nodes t.next node i (λ o. o ≡ get t.nodes i) (λ is. no_way (sym off ∙ eq-eqb t.next i (sym is))) refl

  -- what is told of a node, by whether it is the new one
  by_node : {X : Type 0} (k : ℕ → Option Node → X) (i : ℕ) → k i (get grown.nodes i) ≡ cond (t.next == i) (k i (Some node)) (k i (get t.nodes i))
  by_node k i = by (t.next == i) refl
    where
      by : (b : Bool) → (t.next == i) ≡ b → k i (get grown.nodes i) ≡ cond b (k i (Some node)) (k i (get t.nodes i))
      by true is = ap (k i) (ap (get grown.nodes) (sym (eqb-true t.next i is)) ∙ here)
      by false is = ap (k i) (there i is)

  entries : (d : ℕ) (m : List ℕ) → entry_of grown d m ≡ entry_of t d m
  entries d m = by (t.next == d) refl
    where
      by : (b : Bool) → (t.next == d) ≡ b → entry_of grown d m ≡ entry_of t d m
      by true is =
          let same : t.next ≡ d = eqb-true t.next d is in
          ap (entry_in m) (ap (get grown.nodes) (sym same) ∙ here) ∙ fresh_names u node fresh m ∙ sym (ap (entry_in m) (ap (get t.nodes) (sym same) ∙ unused))
      by false is = ap (entry_in m) (there d is)

  same : (i : ℕ) → Same t grown i
  same i = record { to = λ d m e. entries d m ∙ e; back = λ d m e. sym (entries d m) ∙ e }

  none_before : NoName t t.next
  none_before d m e = no_way (sym (ap (λ o. is_some (option_map kind_of_node o)) unused) ∙ given d t.next m e)

  none_now : NoName grown t.next
  none_now d m e = none_before d m (sym (entries d m) ∙ e)

  dirs : (i : ℕ) → dir_in grown i ≡ cond (t.next == i) (known (t.next == 1) (Some node)) (dir_in t i)
  dirs i = by (t.next == i) refl
    where
      by : (b : Bool) → (t.next == i) ≡ b → dir_in grown i ≡ cond b (known (t.next == 1) (Some node)) (dir_in t i)
      by true is =
          subst (λ x. dir_in grown x ≡ known (t.next == 1) (Some node)) (eqb-true t.next i is)
          (dir_known grown t.next (get grown.nodes t.next) ∙ ap (known (is_linked_in grown t.next)) here ∙ ap (λ l. known l (Some node)) (unnamed grown t.next none_now))
      by false is = same_dir t grown i (λ l. ap (known l) (there i is)) (same i)

  names_same : (i : ℕ) → dir_name grown i ≡ dir_name t i
  names_same i = by (t.next == i) refl
    where
      by : (b : Bool) → (t.next == i) ≡ b → dir_name grown i ≡ dir_name t i
      by true is = subst (λ x. dir_name grown x ≡ dir_name t x) (eqb-true t.next i is) (no_dir_name grown t.next none_now ∙ sym (no_dir_name t t.next none_before))
      by false is = same_name t grown i (λ l. ap (known l) (there i is)) (same i)

  -- what isn't there before
  absent : {X : Type 0} (k : ℕ → Option Node → Option X) → k t.next None ≡ None → (i : ℕ) → cond (t.next == i) None (k i (get t.nodes i)) ≡ k i (get t.nodes i)
  absent k none i = by (t.next == i) refl
    where
      by : (b : Bool) → (t.next == i) ≡ b → cond b None (k i (get t.nodes i)) ≡ k i (get t.nodes i)
      by true is = subst (λ x. None ≡ k x (get t.nodes x)) (eqb-true t.next i is) (sym (ap (k t.next) unused ∙ none))
      by false is = refl

  abbrev targets : ℕ → Option Node → Option (List ℕ)
  targets i o = option_and_then target_in o

  no_dirs : (i : ℕ) → cond (t.next == i) None (dir_in t i) ≡ dir_in t i
  no_dirs i = by (t.next == i) refl
    where
      by : (b : Bool) → (t.next == i) ≡ b → cond b None (dir_in t i) ≡ dir_in t i
      by true is = subst (λ x. None ≡ dir_in t x) (eqb-true t.next i is) (sym (dir_known t t.next (get t.nodes t.next) ∙ ap (known (is_linked_in t t.next)) unused))
      by false is = refl

  grown_case : (x : Node) → node ≡ x → (s : ℕ) → view_in grown ≡ shown_after (view_in t) (new_edit s t.next x)
  grown_case (Dir parent opaque names) is s =
      same_parts (view_in grown) (shown_after (view_in t) (new_edit s t.next (Dir parent opaque names))) entries
      (λ i. by_node (λ _ o. option_map kind_of_node o) i ∙ ap (λ x. cond (t.next == i) (option_map kind_of_node (Some x)) (kind_at t i)) is)
      (λ i. dirs i ∙ ap (λ x. cond (t.next == i) (known (t.next == 1) (Some x)) (dir_in t i)) is) names_same
      (λ i. by_node targets i ∙ ap (λ x. cond (t.next == i) (option_and_then target_in (Some x)) (option_and_then target_in (get t.nodes i))) is ∙ absent targets refl i)
  grown_case (File bytes) is s =
      same_parts (view_in grown) (shown_after (view_in t) (new_edit s t.next (File bytes))) entries
      (λ i. by_node (λ _ o. option_map kind_of_node o) i ∙ ap (λ x. cond (t.next == i) (option_map kind_of_node (Some x)) (kind_at t i)) is)
      (λ i. dirs i ∙ ap (λ x. cond (t.next == i) (known (t.next == 1) (Some x)) (dir_in t i)) is ∙ no_dirs i) names_same
      (λ i. by_node targets i ∙ ap (λ x. cond (t.next == i) (option_and_then target_in (Some x)) (option_and_then target_in (get t.nodes i))) is ∙ absent targets refl i)
  grown_case (Link target) is s =
      same_parts (view_in grown) (shown_after (view_in t) (new_edit s t.next (Link target))) entries
      (λ i. by_node (λ _ o. option_map kind_of_node o) i ∙ ap (λ x. cond (t.next == i) (option_map kind_of_node (Some x)) (kind_at t i)) is)
      (λ i. dirs i ∙ ap (λ x. cond (t.next == i) (known (t.next == 1) (Some x)) (dir_in t i)) is ∙ no_dirs i) names_same
      (λ i. by_node targets i ∙ ap (λ x. cond (t.next == i) (option_and_then target_in (Some x)) (option_and_then target_in (get t.nodes i))) is)

  grown_view : (s : ℕ) → view_in grown ≡ shown_after (view_in t) (new_edit s t.next node)
  grown_view s = grown_case node refl s

  -- ---- and then one that does

  new_parent : (x : Node) → IsFresh u x → option_map kind_of_node (Some x) ≡ Some kind.Dir → parent_by t.next (known (t.next == 1) (Some x)) ≡ u
  new_parent (Dir parent opaque names) h dir = h.0
  new_parent (File bytes) h dir = absurd cc
  new_parent (Link target) h dir = absurd cc

  module _ (n : List ℕ) (dir : kind_at t u ≡ Some kind.Dir) (free : is_given (entry_of t u n) ≡ false) where
    dir_still : kind_at grown u ≡ Some kind.Dir
    dir_still = by (t.next == u) refl
      where
        by : (b : Bool) → (t.next == u) ≡ b → kind_at grown u ≡ Some kind.Dir
        by true is = none_some (ap (option_map kind_of_node) unused) (ap (kind_at t) (eqb-true t.next u is) ∙ dir)
        by false is = ap (option_map kind_of_node) (there u is) ∙ dir

    parent_is : kind_at grown t.next ≡ Some kind.Dir → parent_by t.next (dir_in grown t.next) ≡ u
    parent_is own =
        ap (parent_by t.next) (dirs t.next ∙ ap (λ b. cond b (known (t.next == 1) (Some node)) (dir_in t t.next)) (eq-eqb t.next t.next refl))
        ∙ new_parent node fresh (sym (ap (option_map kind_of_node) here) ∙ own)

    pub made_view : view_in (made t u n node) ≡ set_entry_at u n (Some (Ino t.next)) (view_in grown)
    made_view =
        set_view grown u n t.next dir_still
        (λ j at own d m e. no_way (sym free ∙ ap is_given (sym (entries u n) ∙ at)))
        (λ own. none_now) parent_is

-- ---- worlds

module _ (w : World) (h : IsWhole w) (s u : ℕ) (n : List ℕ) (node : Node) (linked : is_linked (facts_of w) s u ≡ true) (free : is_given ((facts_of w).entry s u n) ≡ false) (fresh : IsFresh u node) where
  in_store : (t : Store) → get w.stores s ≡ Some t → IsWell t → facts_of (record w { stores = insert w.stores s (made t u n node) }) ≡ edited_by (facts_of w) (new_edit s t.next node ∷ SetName s u n (Ino t.next) ∷ [])
  in_store t e well =
      let link : linked_by (dir_in t u) ≡ true = sym (link_is w s u t e) ∙ linked in
      let dir : kind_at t u ≡ Some kind.Dir = linked_dir t u (get t.nodes u) link in
      let open_at : is_given (entry_of t u n) ≡ false = sym (ap is_given (entry_is w s u n t e)) ∙ free in
      edited_store w s t (made t u n node) (new_edit s t.next node ∷ SetName s u n (Ino t.next) ∷ []) e (new_in s t.next node, (refl, tt))
      (made_view t u node well.below fresh well.names.given n dir open_at ∙ ap (set_entry_at u n (Some (Ino t.next))) (grown_view t u node well.below fresh well.names.given s))

  by_store : (o : Option Store) → get w.stores s ≡ o → facts_of (with_store (λ t. made t u n node) w s o) ≡ edited_by (facts_of w) (new_edit s (next_of o) node ∷ SetName s u n (Ino (next_of o)) ∷ [])
  by_store (Some t) e = in_store t e (well_store w h s t e)
  by_store None e = no_way (sym (ap (λ o. linked_by (option_and_then (λ (t : Store). dir_in t u) o)) e) ∙ linked)

  -- a node is made at a name of a linked directory that gives nothing
  pub made_world : facts_of (with_made w s u n node) ≡ edited_by (facts_of w) (new_edit s (next_of (get w.stores s)) node ∷ SetName s u n (Ino (next_of (get w.stores s))) ∷ [])
  made_world = by_store (get w.stores s) refl
