-- What a store has after a node is made at a name.
use Rattle.std.proofs.Common.{◌≡◌, ℕ, Bool, true, false, ◌||◌, ◌==◌, List, refl, ap, sym, ◌∙◌, subst}
use Rattle.std.specs.Prelude.{Option, Some, None, option_map, option_and_then}
use Rattle.std.specs.Cmp.Lexicographic.{nat_list_cmp_total}
use Rattle.std.specs.FinMap.{get}
use Rattle.std.proofs.lemmas.Map.Lookups.{exact_bytes}
use Rattle.finite_maps.proofs.EntryLaws.{by_key}
use Rattle.vfs_tree.specs.Edits.{made}
use Rattle.vfs_tree.specs.Nodes.{Names, entry_in, AreBelow}
use Rattle.vfs_tree.specs.Shown.{shown_node}
use Rattle.vfs_tree.specs.StoreEdits.{entry_of}
use Rattle.vfs_tree.specs.Views.{kind_of_node, is_named_in, is_linked_in, facts_in, dir_in}
use Rattle.vfs_tree.specs.declared.node.NameEntry.{NameEntry}
use Rattle.vfs_tree.specs.declared.node.NameEntry.TheVariants.{Ino}
use Rattle.vfs_tree.specs.declared.node.Node.{Node}
use Rattle.vfs_tree.specs.declared.node.Node.TheVariants.{Dir, File, Link}
use Rattle.vfs_tree.specs.declared.node.Store.{Store}
use Rattle.vfs_tree.specs.declared.view.DirFacts.{DirFacts}
use Rattle.call_laws.proofs.MadeLaws.{IsFresh, none_some, fresh_names, linked_named, inode_of, unused, node_case, node_new, entry_new}
use Rattle.call_laws.proofs.NamedLaws.{no_way, named_from, named_to}

-- two truth values that follow from one another
both_ways : (a b : Bool) → (a ≡ true → b ≡ true) → (b ≡ true → a ≡ true) → a ≡ b
both_ways true b f g = sym (f refl)
both_ways false true f g = no_way (g refl)
both_ways false false f g = refl

dir_linked : (s t : Store) (d : ℕ) (o : Option Node) → is_linked_in s d ≡ is_linked_in t d → option_and_then (facts_in s d) o ≡ option_and_then (facts_in t d) o
dir_linked s t d (Some (Dir parent opaque names)) e =
    let at : Bool → Option DirFacts = λ b. Some (record { parent = parent; opaque = opaque; linked = b }) in
    ap at e
dir_linked s t d (Some (File bytes)) e = refl
dir_linked s t d (Some (Link target)) e = refl
dir_linked s t d None e = refl

module _ (t : Store) (u : ℕ) (n : List ℕ) (node : Node) (parent : ℕ) (opaque : Bool) (names : Names)
    (below : AreBelow t.nodes t.next) (at : get t.nodes u ≡ Some (Dir parent opaque names)) (free : get names n ≡ None) (fresh : IsFresh u node) where
  abbrev new : Store
  new = made t u n node

  -- what stands at another name is as before
  pub entry_case : (d : ℕ) (m : List ℕ) → (d ≡ t.next → ⊥) → (Q : Option NameEntry → Type 0) → (d ≡ u → m ≡ n → Q (Some (Ino t.next))) → Q (entry_of t d m) → Q (entry_of new d m)
  entry_case d m other Q here else =
      node_case t u n node parent opaque names below at d (λ o. Q (entry_in m o))
      (λ same. by_key nat_list_cmp_total exact_bytes names n (Ino t.next) m Q (here same) (subst Q (ap (entry_in m) (ap (get t.nodes) same ∙ at)) else))
      (λ same. absurd (other same))
      else

  -- the new directory has no names
  pub entry_fresh : (m : List ℕ) → entry_of new t.next m ≡ None
  entry_fresh m = ap (entry_in m) (node_new t u n node parent opaque names below at) ∙ fresh_names u node fresh m

  pub entry_stays : (d : ℕ) (m : List ℕ) (e : NameEntry) → entry_of t d m ≡ Some e → entry_of new d m ≡ Some e
  entry_stays d m e is =
      node_case t u n node parent opaque names below at d (λ o. entry_in m o ≡ Some e)
      (λ same. let own : get names m ≡ Some e = sym (ap (entry_in m) (ap (get t.nodes) same ∙ at)) ∙ is in
      by_key nat_list_cmp_total exact_bytes names n (Ino t.next) m (λ o. o ≡ Some e) (λ k. none_some (ap (get names) k ∙ free) own) own)
      (λ same. none_some (ap (entry_in m) (ap (get t.nodes) same ∙ unused t u n node parent opaque names below at)) is)
      is

  entry_back : (d : ℕ) (m : List ℕ) (j : ℕ) → (j ≡ t.next → ⊥) → entry_of new d m ≡ Some (Ino j) → entry_of t d m ≡ Some (Ino j)
  entry_back d m j other =
      node_case t u n node parent opaque names below at d (λ o. entry_in m o ≡ Some (Ino j) → entry_of t d m ≡ Some (Ino j))
      (λ same. by_key nat_list_cmp_total exact_bytes names n (Ino t.next) m (λ o. o ≡ Some (Ino j) → entry_of t d m ≡ Some (Ino j))
      (λ is e. absurd (other (sym (ap inode_of e))))
      (λ e. ap (entry_in m) (ap (get t.nodes) same ∙ at) ∙ e))
      (λ same e. none_some (fresh_names u node fresh m) e)
      (λ e. e)

  -- ---- other nodes

  pub shown_else : (d : ℕ) → (d ≡ t.next → ⊥) → option_map shown_node (get new.nodes d) ≡ option_map shown_node (get t.nodes d)
  shown_else d other =
      node_case t u n node parent opaque names below at d (λ o. option_map shown_node o ≡ option_map shown_node (get t.nodes d))
      (λ same. sym (ap (option_map shown_node) (ap (get t.nodes) same ∙ at))) (λ same. absurd (other same)) refl

  pub kind_else : (d : ℕ) → (d ≡ t.next → ⊥) → option_map kind_of_node (get new.nodes d) ≡ option_map kind_of_node (get t.nodes d)
  kind_else d other =
      node_case t u n node parent opaque names below at d (λ o. option_map kind_of_node o ≡ option_map kind_of_node (get t.nodes d))
      (λ same. sym (ap (option_map kind_of_node) (ap (get t.nodes) same ∙ at))) (λ same. absurd (other same)) refl

  named_else : (d : ℕ) → (d ≡ t.next → ⊥) → is_named_in new d ≡ is_named_in t d
  named_else d other =
      both_ways (is_named_in new d) (is_named_in t d)
      (λ h. let x = named_from new d h in named_to t d x.dir x.name (entry_back x.dir x.name d other x.entry))
      (λ h. let x = named_from t d h in named_to new d x.dir x.name (entry_stays x.dir x.name (Ino d) x.entry))

  pub dir_else : (d : ℕ) → (d ≡ t.next → ⊥) → dir_in new d ≡ dir_in t d
  dir_else d other =
      node_case t u n node parent opaque names below at d (λ o. option_and_then (facts_in new d) o ≡ dir_in t d)
      (λ same. linked_else (Some (Dir parent opaque names)) ∙ sym (ap (option_and_then (facts_in t d)) (ap (get t.nodes) same ∙ at))) (λ same. absurd (other same)) (linked_else (get t.nodes d))
    where
      linked_else : (o : Option Node) → option_and_then (facts_in new d) o ≡ option_and_then (facts_in t d) o
      linked_else o = dir_linked new t d o (ap (λ b. (d == 1) || b) (named_else d other))

  -- the new node is linked
  pub linked_new : is_linked_in new t.next ≡ true
  linked_new = linked_named new t.next (named_to new t.next u n (entry_new t u n node parent opaque names below at))
