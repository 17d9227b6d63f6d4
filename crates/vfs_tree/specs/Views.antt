-- What walks read of a world.
use Rattle.std.specs.Prelude.{ℕ, Bool, true, false, ◌||◌, ◌==◌, List, Option, Some, None, option_map, option_and_then}
use Rattle.std.specs.List.{list_any, find}
use Rattle.std.specs.FinMap.{get, entries, values}
use Rattle.vfs_tree.specs.Facts.{Facts}
use Rattle.vfs_tree.specs.Mounts.{covering}
use Rattle.vfs_tree.specs.Nodes.{Names, node_at, entry_at}
use Rattle.vfs_tree.specs.declared.node.Kind.{Kind}
use Rattle.vfs_tree.specs.declared.node.Kind.TheVariants as kind
use Rattle.vfs_tree.specs.declared.node.NameEntry.{NameEntry}
use Rattle.vfs_tree.specs.declared.node.NameEntry.TheVariants.{Ino, White}
use Rattle.vfs_tree.specs.declared.node.Node.{Node}
use Rattle.vfs_tree.specs.declared.node.Node.TheVariants.{Dir, File, Link}
use Rattle.vfs_tree.specs.declared.node.Store.{Store}
use Rattle.vfs_tree.specs.declared.view.DirFacts.{DirFacts}
use Rattle.vfs_tree.specs.declared.world.World.{World}

-- what a node is
abbrev pub kind_of_node : Node → Kind
kind_of_node (Dir parent opaque names) = kind.Dir
kind_of_node (File bytes) = kind.File
kind_of_node (Link target) = kind.Link

-- the path that a link stands for
abbrev pub target_in : Node → Option (List ℕ)
target_in (Link target) = Some target
target_in (Dir parent opaque names) = None
target_in (File bytes) = None

-- ---- names that give a node

-- whether an entry gives an inode
abbrev pub gives : ℕ → NameEntry → Bool
gives i (Ino j) = j == i
gives i White = false

-- whether a name of a node that is a directory gives it
abbrev pub gives_in : ℕ → Node → Bool
gives_in i (Dir parent opaque names) = list_any (gives i) (values names)
gives_in i (File bytes) = false
gives_in i (Link target) = false

-- whether some name of a store gives it
abbrev pub is_named_in : Store → ℕ → Bool
is_named_in t i = list_any (gives_in i) (values t.nodes)

-- the root, or a node that some name of the store gives
abbrev pub is_linked_in : Store → ℕ → Bool
is_linked_in t i = (i == 1) || is_named_in t i

-- the first name of a directory that gives it
abbrev pub name_in : ℕ → Names → Option (List ℕ)
name_in i names = option_map (λ e. e.0) (find (λ e. gives i e.1) (entries names))

abbrev pub name_by : ℕ → Option Node → Option (List ℕ)
name_by i (Some (Dir parent opaque names)) = name_in i names
name_by i (Some (File bytes)) = None
name_by i (Some (Link target)) = None
name_by i None = None

-- ---- directories

abbrev pub facts_in : Store → ℕ → Node → Option DirFacts
facts_in t i (Dir parent opaque names) = Some (record { parent = parent; opaque = opaque; linked = is_linked_in t i })
facts_in t i (File bytes) = None
facts_in t i (Link target) = None

-- what is to be known of a directory of a store
abbrev pub dir_in : Store → ℕ → Option DirFacts
dir_in t i = option_and_then (facts_in t i) (get t.nodes i)

-- the name that its parent has for a directory of a store
abbrev pub dir_name : Store → ℕ → Option (List ℕ)
dir_name t i = option_and_then (λ d. name_by i (get t.nodes d.parent)) (dir_in t i)

-- ---- the view of a world

abbrev pub facts_of : World → Facts
facts_of w = record {
  entry = entry_at w;
  kind = λ s i. option_map kind_of_node (node_at w s i);
  dir = λ s i. option_and_then (λ t. dir_in t i) (get w.stores s);
  name_of = λ s i. option_and_then (λ t. dir_name t i) (get w.stores s);
  target = λ s i. option_and_then target_in (node_at w s i);
  covering = covering w.mounts w.leaving;
  mount = get w.mounts;
}
