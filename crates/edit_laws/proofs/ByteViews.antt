-- Files' contents have no part in what walks read.
use Rattle.std.proofs.Common.{◌≡◌, ℕ, List, refl, ap, sym, ◌∙◌}
use Rattle.std.specs.Prelude.{Option, Some, None, option_map, option_and_then}
use Rattle.std.specs.Cmp.{nat_cmp_total}
use Rattle.std.specs.FinMap.{get, insert}
use Rattle.std.proofs.lemmas.Map.Lookups.{exact_unsigned}
use Rattle.finite_maps.proofs.EntryLaws.{by_key}
use Rattle.vfs_tree.specs.Edits.{with_node, with_store}
use Rattle.vfs_tree.specs.FileEdits.{with_bytes}
use Rattle.vfs_tree.specs.Nodes.{entry_in}
use Rattle.vfs_tree.specs.StoreEdits.{with_node_at}
use Rattle.vfs_tree.specs.Views.{kind_of_node, target_in, name_by, dir_in, dir_name, facts_of}
use Rattle.vfs_tree.specs.declared.node.Node.{Node}
use Rattle.vfs_tree.specs.declared.node.Node.TheVariants.{Dir, File, Link}
use Rattle.vfs_tree.specs.declared.node.Store.{Store}
use Rattle.vfs_tree.specs.declared.view.DirFacts.{DirFacts}
use Rattle.vfs_tree.specs.declared.world.World.{World}
use Rattle.call_laws.proofs.BytesLaws.{kind_alike, dir_alike}
use Rattle.model_laws.proofs.AlikeLaws.{same_view}

-- two stores show the same
pub record StoreSame (t u : Store) : Type 0 where
  pub entry : (d : ℕ) (n : List ℕ) → entry_in n (get t.nodes d) ≡ entry_in n (get u.nodes d)
  pub kind : (i : ℕ) → option_map kind_of_node (get t.nodes i) ≡ option_map kind_of_node (get u.nodes i)
  pub dir : (i : ℕ) → dir_in t i ≡ dir_in u i
  pub name : (i : ℕ) → dir_name t i ≡ dir_name u i
  pub target : (i : ℕ) → option_and_then target_in (get t.nodes i) ≡ option_and_then target_in (get u.nodes i)

store_itself : (t : Store) → StoreSame t t
store_itself t = record { entry = λ d n. refl; kind = λ i. refl; dir = λ i. refl; name = λ i. refl; target = λ i. refl }

-- a world with a store that shows the same
pub same_store : (w : World) (s : ℕ) (t u : Store) → get w.stores s ≡ Some t → StoreSame u t → facts_of (record w { stores = insert w.stores s u }) ≡ facts_of w
same_store w s t u at same = same_view (facts_of (record w { stores = insert w.stores s u })) (facts_of w) (record {
  entry = λ x d n. case x (λ o. entry_in n (option_and_then (λ (t : Store). get t.nodes d) o)) (same.entry d n);
  kind = λ x i. case x (λ o. option_map kind_of_node (option_and_then (λ (t : Store). get t.nodes i) o)) (same.kind i);
  dir = λ x i. case x (option_and_then (λ t. dir_in t i)) (same.dir i);
  name_of = λ x i. case x (option_and_then (λ t. dir_name t i)) (same.name i);
  target = λ x i. case x (λ o. option_and_then target_in (option_and_then (λ (t : Store). get t.nodes i) o)) (same.target i);
  covering = λ p. refl;
  mount = λ m. refl;
})
  where
    case : {X : Type 0} (x : ℕ) (h : Option Store → X) → h (Some u) ≡ h (Some t) → h (get (insert w.stores s u) x) ≡ h (get w.stores x)
    case x h is = by_key nat_cmp_total exact_unsigned w.stores s u x (λ o. h o ≡ h (get w.stores x)) (λ e. is ∙ ap h (sym (ap (get w.stores) e ∙ at))) refl

entry_kept : (g : List ℕ → List ℕ) (n : List ℕ) (node : Node) → entry_in n (Some (with_bytes g node)) ≡ entry_in n (Some node)
entry_kept g n (Dir parent opaque names) = refl
entry_kept g n (File bytes) = refl
entry_kept g n (Link target) = refl

name_kept : (g : List ℕ → List ℕ) (d : ℕ) (node : Node) → name_by d (Some (with_bytes g node)) ≡ name_by d (Some node)
name_kept g d (Dir parent opaque names) = refl
name_kept g d (File bytes) = refl
name_kept g d (Link target) = refl

target_kept : (g : List ℕ → List ℕ) (node : Node) → target_in (with_bytes g node) ≡ target_in node
target_kept g (Dir parent opaque names) = refl
target_kept g (File bytes) = refl
target_kept g (Link target) = refl

name_alike : (s t : Store) (d : ℕ) → ((p : ℕ) → name_by d (get s.nodes p) ≡ name_by d (get t.nodes p)) → (o : Option DirFacts)
    → option_and_then (λ (x : DirFacts). name_by d (get s.nodes x.parent)) o ≡ option_and_then (λ (x : DirFacts). name_by d (get t.nodes x.parent)) o
name_alike s t d same (Some x) = same x.parent
name_alike s t d same None = refl

module _ (t : Store) (i : ℕ) (g : List ℕ → List ℕ) (node : Node) (at : get t.nodes i ≡ Some node) where
  abbrev new : Store
  new = record t { nodes = insert t.nodes i (with_bytes g node) }

  alike : {X : Type 0} (h : Option Node → X) → h (Some (with_bytes g node)) ≡ h (Some node) → (d : ℕ) → h (get new.nodes d) ≡ h (get t.nodes d)
  alike h same d = by_key nat_cmp_total exact_unsigned t.nodes i (with_bytes g node) d (λ o. h o ≡ h (get t.nodes d)) (λ is. same ∙ ap h (sym (ap (get t.nodes) is ∙ at))) refl

  bytes_same : StoreSame new t
  bytes_same = record {
    entry = λ d n. alike (entry_in n) (entry_kept g n node) d;
    kind = kind_alike t i g node at t.next;
    dir = dir_alike t i g node at t.next;
    name = λ d. name_alike new t d (alike (name_by d) (name_kept g d node)) (dir_in new d) ∙ ap (option_and_then (λ (x : DirFacts). name_by d (get t.nodes x.parent))) (dir_alike t i g node at t.next d);
    target = λ d. alike (option_and_then target_in) (target_kept g node) d;
  }

module _ (w : World) (s i : ℕ) (g : List ℕ → List ℕ) where
  in_store : (t : Store) → get w.stores s ≡ Some t → (r : Option Node) → get t.nodes i ≡ r → facts_of (record w { stores = insert w.stores s (record t { nodes = with_node (with_bytes g) t.nodes i r }) }) ≡ facts_of w
  in_store t at (Some node) is = same_store w s t (record t { nodes = insert t.nodes i (with_bytes g node) }) at (bytes_same t i g node is)
  in_store t at None is = same_store w s t t at (store_itself t)

  by_store : (o : Option Store) → get w.stores s ≡ o → facts_of (with_store (λ t. with_node_at (with_bytes g) t i) w s o) ≡ facts_of w
  by_store (Some t) at = in_store t at (get t.nodes i) refl
  by_store None at = refl

  -- the contents of a file are changed
  pub bytes_view : facts_of (with_store (λ t. with_node_at (with_bytes g) t i) w s (get w.stores s)) ≡ facts_of w
  bytes_view = by_store (get w.stores s) refl
