-- The names of directories.
use Rattle.std.specs.Prelude.{ℕ, ◌≡◌, List, Option, Some, None, option_map}
use Rattle.std.specs.FinMap.{get}
use Rattle.vfs_tree.specs.Nodes.{entry_in}
use Rattle.vfs_tree.specs.declared.node.Node.{Node}
use Rattle.vfs_tree.specs.declared.node.Node.TheVariants.{Dir, File, Link}
use Rattle.vfs_tree.specs.declared.node.NameEntry.TheVariants.{Ino}
use Rattle.mem_fs.specs.Inodes.{Inodes, node_of, own_name}

-- the parent of a directory
abbrev pub parent_in : Option Node → Option ℕ
parent_in (Some (Dir parent opaque names)) = Some parent
parent_in (Some (File bytes)) = None
parent_in (Some (Link target)) = None
parent_in None = None

-- a directory keeps the name that its parent has for it, and no other name gives it
pub record AreNamed (m : Inodes) : Type 0 where
  -- a name that gives a directory stands in its parent, and is the one that it keeps
  pub once : (d i p : ℕ) (n : List ℕ) → parent_in (option_map node_of (get m i)) ≡ Some p → entry_in n (option_map node_of (get m d)) ≡ Some (Ino i) → (d ≡ p) × (own_name (get m i) ≡ Some n)
  -- its parent has the name that it keeps
  pub stands : (i p : ℕ) (n : List ℕ) → parent_in (option_map node_of (get m i)) ≡ Some p → own_name (get m i) ≡ Some n → entry_in n (option_map node_of (get m p)) ≡ Some (Ino i)
