-- What a directory shows is there.
use Rattle.std.proofs.Common.{◌≡◌, ℕ, zero, suc, Bool, true, false, List, refl, ap, ◌∙◌}
use Rattle.std.specs.Prelude.{Option, Some, None, IsSome, is_some, option_map}
use Rattle.vfs_tree.specs.Child.{Lookup, child_mem, child_null, child_below, low_by, upper_entry}
use Rattle.vfs_tree.specs.Facts.{Facts}
use Rattle.vfs_tree.specs.Layers.{kind_in, store_by, base, is_dir, kind_of}
use Rattle.vfs_tree.specs.Nodes.{node_at}
use Rattle.vfs_tree.specs.Place.{Seen, Mem, Null, UnionUp, UnionLow, mount_of}
use Rattle.vfs_tree.specs.Shown.{shown_low, shown_union, shown_within, shown_child, shown_node, shown_at}
use Rattle.vfs_tree.specs.Sound.{IsSoundView}
use Rattle.vfs_tree.specs.Views.{kind_of_node, facts_of}
use Rattle.vfs_tree.specs.declared.mount.MountKind.{MountKind}
use Rattle.vfs_tree.specs.declared.mount.MountKind.TheVariants as kind
use Rattle.vfs_tree.specs.declared.node.NameEntry.{NameEntry}
use Rattle.vfs_tree.specs.declared.node.NameEntry.TheVariants.{Ino, White}
use Rattle.vfs_tree.specs.declared.node.Node.{Node}
use Rattle.vfs_tree.specs.declared.walk.Child.{Child}
use Rattle.vfs_tree.specs.declared.walk.Child.TheVariants as child
use Rattle.vfs_tree.specs.declared.walk.NodeId.{NodeId}
use Rattle.vfs_tree.specs.declared.world.World.{World}
use Rattle.call_laws.proofs.NamedLaws.{no_way}
use Rattle.layer_laws.proofs.LowerLaws.{Stands, stands_if}

module _ (f : Facts) (view : IsSoundView f) where
  -- a node is at the base of the place
  abbrev IsBased : Seen → Type 0
  IsBased q = IsSome (kind_of f q)

  based-mem : (m i : ℕ) (n : List ℕ) (e : Option NameEntry) → f.entry m i n ≡ e → Stands IsBased (child_mem m e)
  based-mem m i n (Some (Ino j)) at = (view.names m).given i j n at
  based-mem m i n (Some White) at = tt
  based-mem m i n None at = tt

  based-null : (m : ℕ) (c : Child) → Stands IsBased c → Stands IsBased (child_null m c)
  based-null m (child.At q) h = h
  based-null m child.Absent h = tt
  based-null m (child.Need x) h = tt

  based-below : (look : Lookup) → ((d : Seen) (n : List ℕ) → Stands IsBased (look d n)) → (c : Child) (n : List ℕ) → Stands IsBased (child_below look c n)
  based-below look h (child.At d) n = h d n
  based-below look h child.Absent n = tt
  based-below look h (child.Need x) n = tt

  based-low : (m u : ℕ) (n : List ℕ) (c : Child) → Stands IsBased c → Stands IsBased (shown_low f m u n c)
  based-low m u n (child.At q) h = stands_if IsBased (is_dir f q) (child.At q) (child.At (UnionLow m u n q)) h h
  based-low m u n child.Absent h = tt
  based-low m u n (child.Need x) h = tt

  based-entry : (m u : ℕ) (n : List ℕ) (s top : ℕ) (lower : Seen) → kind_in f m ≡ Some (kind.Union s top lower) → (e : Option NameEntry) → f.entry s u n ≡ e
      → (below : List ℕ → Child) → Stands IsBased (below n) → Stands IsBased (shown_union f m u n e below)
  based-entry m u n s top lower is (Some (Ino i)) at below h = ap (λ (o : Option MountKind). is_some (f.kind (store_by o) i)) is ∙ (view.names s).given u i n at
  based-entry m u n s top lower is (Some White) at below h = tt
  based-entry m u n s top lower is None at below h = based-low m u n (below n) h

  based-union : (look : Lookup) → ((d : Seen) (n : List ℕ) → Stands IsBased (look d n)) → (m u : ℕ) (n : List ℕ) (o : Option MountKind) → kind_in f m ≡ o
      → Stands IsBased (shown_union f m u n (upper_entry f o u n) (child_below look (low_by f look u o)))
  based-union look h m u n (Some (kind.Union s top lower)) is =
      based-entry m u n s top lower is (f.entry s u n) refl (child_below look (low_by f look u (Some (kind.Union s top lower)))) (based-below look h (low_by f look u (Some (kind.Union s top lower))) n)
  based-union look h m u n (Some kind.Mem) is = tt
  based-union look h m u n (Some (kind.Null layer)) is = tt
  based-union look h m u n None is = tt

  based-within : (k : ℕ) (d : Seen) (n : List ℕ) → Stands IsBased (shown_within k f d n)
  based-within zero d n = tt
  based-within (suc k) (Mem m i) n = based-mem m i n (f.entry m i n) refl
  based-within (suc k) (Null m p) n = based-null m (shown_within k f p n) (based-within k p n)
  based-within (suc k) (UnionUp m u) n = based-union (shown_within k f) (based-within k) m u n (kind_in f m) refl
  based-within (suc k) (UnionLow m u a p) n = tt

  pub shown_based : (d : Seen) (n : List ℕ) → Stands IsBased (shown_child f d n)
  shown_based d n = based-within (suc (mount_of d)) d n

node_based : (o : Option Node) → IsSome (option_map kind_of_node o) → IsSome (option_map shown_node o)
node_based (Some node) h = refl
node_based None h = no_way h

-- whether something stands there
abbrev pub is_there : Child → Bool
is_there (child.At p) = true
is_there child.Absent = false
is_there (child.Need x) = false

there_shown : (w : World) (c : Child) → Stands (λ q. IsSome (kind_of (facts_of w) q)) c → is_there c ≡ true → IsSome (shown_at w c)
there_shown w (child.At p) based h = let b : NodeId = base (facts_of w) p in node_based (node_at w b.store b.ino) based
there_shown w child.Absent based h = no_way h
there_shown w (child.Need x) based h = no_way h

-- where something stands at a name, a node is shown
pub something_shown : (w : World) → IsSoundView (facts_of w) → (d : Seen) (n : List ℕ) → is_there (shown_child (facts_of w) d n) ≡ true → IsSome (shown_at w (shown_child (facts_of w) d n))
something_shown w view d n h = there_shown w (shown_child (facts_of w) d n) (shown_based (facts_of w) view d n) h

pub shown_something : (w : World) (c : Child) → IsSome (shown_at w c) → is_there c ≡ true
shown_something w (child.At p) h = refl
shown_something w child.Absent h = no_way h
shown_something w (child.Need x) h = no_way h
