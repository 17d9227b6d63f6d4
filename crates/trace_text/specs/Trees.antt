-- The mounts of a world with their nodes.
use Rattle.std.specs.Prelude.{ℕ, Bool, false, ◌||◌, ◌==◌, cond, List, [], ◌++◌, flat_map, Option, Some, None}
use Rattle.std.specs.List.{list_any}
use Rattle.std.specs.Ordering.{nat_cmp}
use Rattle.std.specs.FinMap.{FinMap, entries, get}
use Rattle.vfs_tree.specs.declared.node.NameEntry.{NameEntry}
use Rattle.vfs_tree.specs.declared.node.NameEntry.TheVariants as entry
use Rattle.vfs_tree.specs.declared.node.Node.{Node}
use Rattle.vfs_tree.specs.declared.node.Node.TheVariants as node
use Rattle.vfs_tree.specs.declared.node.Store.{Store}
use Rattle.vfs_tree.specs.declared.mount.Mount.{Mount}
use Rattle.vfs_tree.specs.declared.mount.MountKind.{MountKind}
use Rattle.vfs_tree.specs.declared.mount.MountKind.TheVariants as kind
use Rattle.vfs_tree.specs.declared.world.World.{World}
use Rattle.trace_text.specs.Mount.{mount_text}
use Rattle.trace_text.specs.Node.{node_text}

-- the name stands for the inode number
abbrev pub is_of : ℕ → NameEntry → Bool
is_of ino (entry.Ino given) = ino == given
is_of ino entry.White = false

-- some name of the directory gives the inode number
abbrev pub gives : ℕ → Node → Bool
gives ino (node.Dir parent opaque names) = list_any (λ e. is_of ino e.1) (entries names)
gives ino (node.File bytes) = false
gives ino (node.Link target) = false

-- some name of some directory of the store gives the inode number
abbrev pub has_name : Store → ℕ → Bool
has_name store ino = list_any (λ e. gives ino e.1) (entries store.nodes)

-- the lines of a node, if it is the root or some name gives it
abbrev pub shown_text : Store → ℕ → Node → List ℕ
shown_text store ino node = cond (ino == 1 || has_name store ino) (node_text ino node) []

-- the nodes of a store by inode number
abbrev pub store_text : Store → List ℕ
store_text store = flat_map (λ e. shown_text store e.0 e.1) (entries store.nodes)

-- the nodes of a memory mount
abbrev pub nodes_text : MountKind → Option Store → List ℕ
nodes_text kind.Mem (Some store) = store_text store
nodes_text kind.Mem None = []
nodes_text (kind.Null layer) store = []
nodes_text (kind.Union store upper lower) s = []

-- a mount, and its nodes
abbrev pub tree_text : FinMap nat_cmp Store → ℕ → Mount → List ℕ
tree_text stores number mount = mount_text number mount ++ nodes_text mount.kind (get stores number)

-- the mounts by number, each memory mount with its nodes
abbrev pub trees_text : World → List ℕ
trees_text world = flat_map (λ e. tree_text world.stores e.0 e.1) (entries world.mounts)
