-- Files' contents have no part in what names and mounts are: where they are changed, a world stays sound.
use Rattle.std.proofs.Common.{◌≡◌, ℕ, Bool, true, false, ◌==◌, ◌||◌, List, refl, ap, sym, ◌∙◌, subst}
use Rattle.std.specs.Prelude.{Option, Some, None, IfSome, option_map, option_and_then}
use Rattle.std.specs.Cmp.{nat_cmp_total}
use Rattle.std.specs.FinMap.{get, insert}
use Rattle.std.proofs.lemmas.Map.Lookups.{exact_unsigned}
use Rattle.finite_maps.proofs.EntryLaws.{by_key}
use Rattle.vfs_tree.specs.Edits.{with_node, with_store}
use Rattle.vfs_tree.specs.FileEdits.{with_bytes}
use Rattle.vfs_tree.specs.Nodes.{entry_in}
use Rattle.vfs_tree.specs.Sound.{AreSoundNames, IsSound}
use Rattle.vfs_tree.specs.StoreEdits.{entry_of, with_node_at}
use Rattle.vfs_tree.specs.Views.{kind_of_node, is_named_in, is_linked_in, name_by, facts_in, dir_in, dir_name}
use Rattle.vfs_tree.specs.declared.node.Node.{Node}
use Rattle.vfs_tree.specs.declared.node.Node.TheVariants.{Dir, File, Link}
use Rattle.vfs_tree.specs.declared.node.Store.{Store}
use Rattle.vfs_tree.specs.declared.view.DirFacts.{DirFacts}
use Rattle.vfs_tree.specs.declared.world.World.{World}
use Rattle.call_laws.proofs.MadeLaws.{StoreNames}
use Rattle.call_laws.proofs.NamedLaws.{named_from, named_to}
use Rattle.call_laws.proofs.SoundMade.{NamesOf, sound-stores}

same_truth : (a b : Bool) → (a ≡ true → b ≡ true) → (b ≡ true → a ≡ true) → a ≡ b
same_truth true b f g = sym (f refl)
same_truth false true f g = g refl
same_truth false false f g = refl

facts_alike : (s t : Store) (d : ℕ) (o : Option Node) → is_linked_in s d ≡ is_linked_in t d → option_and_then (facts_in s d) o ≡ option_and_then (facts_in t d) o
facts_alike s t d (Some (Dir parent opaque names)) e = let known : Bool → Option DirFacts = λ l. Some (record { parent = parent; opaque = opaque; linked = l }) in ap known e
facts_alike s t d (Some (File bytes)) e = refl
facts_alike s t d (Some (Link target)) e = refl
facts_alike s t d None e = refl

name_alike : (s t : Store) (d : ℕ) → ((p : ℕ) → name_by d (get s.nodes p) ≡ name_by d (get t.nodes p)) → (o : Option DirFacts)
    → option_and_then (λ (x : DirFacts). name_by d (get s.nodes x.parent)) o ≡ option_and_then (λ (x : DirFacts). name_by d (get t.nodes x.parent)) o
name_alike s t d same (Some x) = same x.parent
name_alike s t d same None = refl

-- what is known of a node, whatever its bytes are
entry_kept : (g : List ℕ → List ℕ) (n : List ℕ) (node : Node) → entry_in n (Some (with_bytes g node)) ≡ entry_in n (Some node)
entry_kept g n (Dir parent opaque names) = refl
entry_kept g n (File bytes) = refl
entry_kept g n (Link target) = refl

kind_kept : (g : List ℕ → List ℕ) (node : Node) → option_map kind_of_node (Some (with_bytes g node)) ≡ option_map kind_of_node (Some node)
kind_kept g (Dir parent opaque names) = refl
kind_kept g (File bytes) = refl
kind_kept g (Link target) = refl

name_kept : (g : List ℕ → List ℕ) (d : ℕ) (node : Node) → name_by d (Some (with_bytes g node)) ≡ name_by d (Some node)
name_kept g d (Dir parent opaque names) = refl
name_kept g d (File bytes) = refl
name_kept g d (Link target) = refl

facts_kept : (g : List ℕ → List ℕ) (t : Store) (d : ℕ) (node : Node) → option_and_then (facts_in t d) (Some (with_bytes g node)) ≡ option_and_then (facts_in t d) (Some node)
facts_kept g t d (Dir parent opaque names) = refl
facts_kept g t d (File bytes) = refl
facts_kept g t d (Link target) = refl

module _ (t : Store) (i : ℕ) (g : List ℕ → List ℕ) (node : Node) (at : get t.nodes i ≡ Some node) (next : ℕ) where
  abbrev new : Store
  new = record { nodes = insert t.nodes i (with_bytes g node); next = next }

  seen_alike : {X : Type 0} (h : Option Node → X) → h (Some (with_bytes g node)) ≡ h (Some node) → (d : ℕ) → h (get new.nodes d) ≡ h (get t.nodes d)
  seen_alike h same d =
      by_key nat_cmp_total exact_unsigned t.nodes i (with_bytes g node) d (λ o. h o ≡ h (get t.nodes d)) (λ is. same ∙ ap h (sym (ap (get t.nodes) is ∙ at))) refl

  entry_alike : (d : ℕ) (n : List ℕ) → entry_of new d n ≡ entry_of t d n
  entry_alike d n = seen_alike (entry_in n) (entry_kept g n node) d

  pub kind_alike : (d : ℕ) → option_map kind_of_node (get new.nodes d) ≡ option_map kind_of_node (get t.nodes d)
  kind_alike d = seen_alike (option_map kind_of_node) (kind_kept g node) d

  named_alike : (d : ℕ) → is_named_in new d ≡ is_named_in t d
  named_alike d =
      same_truth (is_named_in new d) (is_named_in t d)
      (λ h. let x = named_from new d h in named_to t d x.dir x.name (sym (entry_alike x.dir x.name) ∙ x.entry))
      (λ h. let x = named_from t d h in named_to new d x.dir x.name (entry_alike x.dir x.name ∙ x.entry))

  pub dir_alike : (d : ℕ) → dir_in new d ≡ dir_in t d
  dir_alike d =
      facts_alike new t d (get new.nodes d) (ap (λ b. (d == 1) || b) (named_alike d))
      ∙ seen_alike (option_and_then (facts_in t d)) (facts_kept g t d node) d

  dir_name_alike : (d : ℕ) → dir_name new d ≡ dir_name t d
  dir_name_alike d =
      name_alike new t d (seen_alike (name_by d) (name_kept g d node)) (dir_in new d)
      ∙ ap (option_and_then (λ (x : DirFacts). name_by d (get t.nodes x.parent))) (dir_alike d)

  pub names_alike : StoreNames t → StoreNames new
  names_alike h =
      let kinds = λ (s : Store) (d : ℕ). option_map kind_of_node (get s.nodes d) in
      subst (λ e. AreSoundNames e (kinds new) (dir_in new) (dir_name new)) (λ k d n. sym (entry_alike d n) k)
      (subst (λ e. AreSoundNames (entry_of t) e (dir_in new) (dir_name new)) (λ k d. sym (kind_alike d) k)
      (subst (λ e. AreSoundNames (entry_of t) (kinds t) e (dir_name new)) (λ k d. sym (dir_alike d) k)
      (subst (λ e. AreSoundNames (entry_of t) (kinds t) (dir_in t) e) (λ k d. sym (dir_name_alike d) k) h)))

-- the contents of a file of a store are changed
bytes_case : (w : World) (s i : ℕ) (g : List ℕ → List ℕ) → IsSound w → (o : Option Store) → get w.stores s ≡ o → (r : Option Node) → IfSome o (λ t. get t.nodes i ≡ r)
    → IsSound (with_store (λ t. record t { nodes = with_node (with_bytes g) t.nodes i r }) w s o)
bytes_case w s i g h None e r at = h
bytes_case w s i g h (Some t) e (Some node) at =
    let store : Store = record t { nodes = insert t.nodes i (with_bytes g node) } in
    sound-stores w (insert w.stores s store) h
    (λ x. by_key nat_cmp_total exact_unsigned w.stores s store x NamesOf (λ _. names_alike t i g node at t.next (subst NamesOf e (h.view.names s))) (h.view.names x))
    (record {
      kinds = λ m k x. x;
      nodes = λ x d k is. by_key nat_cmp_total exact_unsigned w.stores s store x (λ o. option_map kind_of_node (option_and_then (λ (t : Store). get t.nodes d) o) ≡ Some k)
          (λ same. kind_alike t i g node at t.next d ∙ sym (ap (λ o. option_map kind_of_node (option_and_then (λ (t : Store). get t.nodes d) o)) (ap (get w.stores) same ∙ e)) ∙ is)
          is;
    })
bytes_case w s i g h (Some t) e None at =
    sound-stores w (insert w.stores s t) h
    (λ x. by_key nat_cmp_total exact_unsigned w.stores s t x NamesOf (λ _. subst NamesOf e (h.view.names s)) (h.view.names x))
    (record {
      kinds = λ m k x. x;
      nodes = λ x d k is. by_key nat_cmp_total exact_unsigned w.stores s t x (λ o. option_map kind_of_node (option_and_then (λ (t : Store). get t.nodes d) o) ≡ Some k)
          (λ same. sym (ap (λ o. option_map kind_of_node (option_and_then (λ (t : Store). get t.nodes d) o)) (ap (get w.stores) same ∙ e)) ∙ is)
          is;
    })

own_node : (w : World) (s i : ℕ) (g : List ℕ → List ℕ) → IsSound w → (o : Option Store) → get w.stores s ≡ o → IsSound (with_store (λ t. with_node_at (with_bytes g) t i) w s o)
own_node w s i g h None e = h
own_node w s i g h (Some t) e = bytes_case w s i g h (Some t) e (get t.nodes i) refl

pub sound-bytes : (w : World) (s i : ℕ) (g : List ℕ → List ℕ) → IsSound w → IsSound (with_store (λ t. with_node_at (with_bytes g) t i) w s (get w.stores s))
sound-bytes w s i g h = own_node w s i g h (get w.stores s) refl
