-- What a world has at a store's inode number.
use Rattle.std.specs.Prelude.{ℕ, ◌<◌, Bool, true, false, List, Option, Some, None, IsSome, IfSome, option_and_then}
use Rattle.std.specs.Ordering.{nat_cmp}
use Rattle.std.specs.FinMap.{FinMap, get, empty}
use Rattle.vfs_tree.specs.Name.{name_cmp}
use Rattle.vfs_tree.specs.declared.node.Node.{Node}
use Rattle.vfs_tree.specs.declared.node.Node.TheVariants.{Dir, File, Link}
use Rattle.vfs_tree.specs.declared.node.NameEntry.{NameEntry}
use Rattle.vfs_tree.specs.declared.node.NameEntry.TheVariants.{Ino, White}
use Rattle.vfs_tree.specs.declared.node.Store.{Store}
use Rattle.vfs_tree.specs.declared.world.World.{World}

-- the names of a directory
abbrev pub Names : Type 0
Names = FinMap name_cmp NameEntry

-- the node at an inode number of a store
abbrev pub node_at : World → ℕ → ℕ → Option Node
node_at w s i = option_and_then (λ t. get t.nodes i) (get w.stores s)

-- whether a node is a directory
abbrev pub is_dir_node : Option Node → Bool
is_dir_node (Some (Dir parent opaque names)) = true
is_dir_node (Some (File bytes)) = false
is_dir_node (Some (Link target)) = false
is_dir_node None = false

-- what a node that is a directory has at a name
abbrev pub entry_in : List ℕ → Option Node → Option NameEntry
entry_in n (Some (Dir parent opaque names)) = get names n
entry_in n (Some (File bytes)) = None
entry_in n (Some (Link target)) = None
entry_in n None = None

-- what a directory of a store has at a name
abbrev pub entry_at : World → ℕ → ℕ → List ℕ → Option NameEntry
entry_at w s i n = entry_in n (node_at w s i)

-- whether a whiteout stands there
abbrev pub is_white : Option NameEntry → Bool
is_white (Some White) = true
is_white (Some (Ino i)) = false
is_white None = false

-- whether the name gives an inode
abbrev pub is_given : Option NameEntry → Bool
is_given (Some (Ino i)) = true
is_given (Some White) = false
is_given None = false

-- the number of a store's next node
abbrev pub next_of : Option Store → ℕ
next_of (Some t) = t.next
next_of None = 0

-- each node has a number below this one
abbrev pub AreBelow : FinMap nat_cmp Node → ℕ → Type 0
AreBelow nodes next = (i : ℕ) → IsSome (get nodes i) → i < next

-- each node of a store has a number below the store's next one
abbrev pub IsNumbered : World → Type 0
IsNumbered w = (s : ℕ) → IfSome (get w.stores s) (λ t. AreBelow t.nodes t.next)
