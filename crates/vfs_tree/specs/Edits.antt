-- Edits of a store.
use Rattle.std.specs.Prelude.{ℕ, ◌+◌, Bool, false, List, Option, Some, None, option_map}
use Rattle.std.specs.Ordering.{nat_cmp}
use Rattle.std.specs.FinMap.{FinMap, get, insert, empty}
use Rattle.vfs_tree.specs.Nodes.{Names}
use Rattle.vfs_tree.specs.declared.node.Node.{Node}
use Rattle.vfs_tree.specs.declared.node.Node.TheVariants.{Dir, File, Link}
use Rattle.vfs_tree.specs.declared.node.NameEntry.{NameEntry}
use Rattle.vfs_tree.specs.declared.node.NameEntry.TheVariants.{Ino}
use Rattle.vfs_tree.specs.declared.node.Store.{Store}
use Rattle.vfs_tree.specs.declared.world.World.{World}

-- a node whose names, where it is a directory, are changed
abbrev pub with_names : (Names → Names) → Node → Node
with_names f (Dir parent opaque names) = Dir parent opaque (f names)
with_names f (File bytes) = File bytes
with_names f (Link target) = Link target

-- the nodes with one of them, where it is there, changed
abbrev pub with_node : (Node → Node) → FinMap nat_cmp Node → ℕ → Option Node → FinMap nat_cmp Node
with_node f nodes i (Some node) = insert nodes i (f node)
with_node f nodes i None = nodes

-- the nodes with an entry put at a name of a directory
abbrev pub with_entry : FinMap nat_cmp Node → ℕ → List ℕ → NameEntry → FinMap nat_cmp Node
with_entry nodes dir n entry = with_node (with_names (λ names. insert names n entry)) nodes dir (get nodes dir)

-- a store with a new node, which a name of a directory gives
abbrev pub made : Store → ℕ → List ℕ → Node → Store
made t dir n node = record {
  nodes = with_entry (insert t.nodes t.next node) dir n (Ino t.next);
  next = t.next + 1;
}

-- a world with a store, where it is there, changed
abbrev pub with_store : (Store → Store) → World → ℕ → Option Store → World
with_store f w s (Some t) = record w { stores = insert w.stores s (f t) }
with_store f w s None = w

-- a new directory without names
abbrev pub new_dir : ℕ → Bool → Node
new_dir parent opaque = Dir parent opaque empty

-- a world with a new node, which a name of a directory gives
abbrev pub with_made : World → ℕ → ℕ → List ℕ → Node → World
with_made w s dir n node = with_store (λ t. made t dir n node) w s (get w.stores s)
