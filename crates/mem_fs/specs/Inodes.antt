-- The nodes of a memory file system by their numbers, what contracts see of them, and their edits.
use Rattle.std.specs.Prelude.{ℕ, ◌+◌, ◌-◌, Bool, true, false, List, Option, Some, None, option_map, length}
use Rattle.std.specs.List.{filter_map}
use Rattle.std.specs.Ordering.{nat_cmp}
use Rattle.std.specs.FinMap.{FinMap, get, insert, entries, from_entries}
use Rattle.vfs_tree.specs.Visible.{names_in}
use Rattle.vfs_tree.specs.declared.node.Node.{Node}
use Rattle.vfs_tree.specs.declared.node.NameEntry.{NameEntry}
use Rattle.vfs_tree.specs.declared.node.NameEntry.TheVariants.{Ino, White}
use Rattle.vfs_tree.specs.declared.node.Store.{Store}
use Rattle.mem_fs.specs.declared.inode.Content.{Content}
use Rattle.mem_fs.specs.declared.inode.Inode.{Inode}
use Rattle.mem_fs.specs.Contents.{shown, reads_of, reserved_of, name_of, put_in, cleared_in, placed, bared, nameless}

-- ---- maps

-- a map with the value at a key, where it is there, changed
abbrev pub with_value : {A : Type 0} → (A → A) → FinMap nat_cmp A → ℕ → Option A → FinMap nat_cmp A
with_value f m k (Some x) = insert m k (f x)
with_value f m k None = m

abbrev pub edited : {A : Type 0} → (A → A) → FinMap nat_cmp A → ℕ → FinMap nat_cmp A
edited f m k = with_value f m k (get m k)

-- a map with a value, if there is one, put at a key
abbrev pub with_new : {A : Type 0} → Option A → FinMap nat_cmp A → ℕ → FinMap nat_cmp A
with_new (Some x) m k = insert m k x
with_new None m k = m

-- what a function gives of the value of an entry
abbrev pub kept_entry : {A B : Type 0} → (A → Option B) → ℕ × A → Option (ℕ × B)
kept_entry f e = option_map (λ y. (e.0, y)) (f e.1)

-- the map of what a function gives of the values
unfoldable pub kept : {A B : Type 0} → (A → Option B) → FinMap nat_cmp A → FinMap nat_cmp B
kept f m = from_entries (filter_map (kept_entry f) (entries m))

-- ---- what contracts see

abbrev pub Inodes : Type 0
Inodes = FinMap nat_cmp Inode

abbrev pub node_of : Inode → Node
node_of x = shown x.content

-- the nodes of the store
abbrev pub nodes_of : Inodes → FinMap nat_cmp Node
nodes_of m = kept (λ (x : Inode). Some (node_of x)) m

-- how many records of each directory were read
abbrev pub reads_at : Inodes → FinMap nat_cmp ℕ
reads_at m = kept (λ (x : Inode). reads_of x.content) m

-- up to which length each regular file has room
abbrev pub reserved_at : Inodes → FinMap nat_cmp ℕ
reserved_at m = kept (λ (x : Inode). reserved_of x.content) m

-- the store
abbrev pub store_of : Inodes → ℕ → Store
store_of m next = record { nodes = nodes_of m; next = next }

-- how many names give a node
abbrev pub links_of : Option Inode → ℕ
links_of (Some x) = x.links
links_of None = 0

-- how many names a directory has
abbrev pub name_count : Option Inode → ℕ
name_count o = length (entries (names_in (option_map node_of o)))

-- the name that its parent has for a directory
abbrev pub own_name : Option Inode → Option (List ℕ)
own_name (Some x) = name_of x.content
own_name None = None

-- ---- edits

-- a node whose content is changed
abbrev pub with_content : (Content → Content) → Inode → Inode
with_content f x = record { links = x.links; content = f x.content }

-- a node that one name fewer gives; a directory loses its names
abbrev pub let_go : Inode → Inode
let_go x = record { links = x.links - 1; content = bared x.content }

-- a node that one name fewer gives, as that name's directory is dropped; a directory keeps its names
abbrev pub lost : Inode → Inode
lost x = record { links = x.links - 1; content = nameless x.content }

-- a node that one name more gives
abbrev pub gained : Inode → Inode
gained x = record { links = x.links + 1; content = x.content }

-- a name of a directory gives the entry
abbrev pub put_at : Inodes → ℕ → List ℕ → NameEntry → Inodes
put_at m d n e = edited (with_content (put_in n e)) m d

-- the entry at a name of a directory goes
abbrev pub cleared_at : Inodes → ℕ → List ℕ → Inodes
cleared_at m d n = edited (with_content (cleared_in n)) m d

-- the node that an entry gave is let go
abbrev pub given_gone : Inodes → Option NameEntry → Inodes
given_gone m (Some (Ino i)) = edited let_go m i
given_gone m (Some White) = m
given_gone m None = m

-- the node that an entry gives is lost
abbrev pub given_lost : Inodes → NameEntry → Inodes
given_lost m (Ino i) = edited lost m i
given_lost m White = m

-- a name is dropped: the entry goes, or becomes a whiteout
abbrev pub dropped_at : Bool → Inodes → ℕ → List ℕ → Inodes
dropped_at true m d n = put_at m d n White
dropped_at false m d n = cleared_at m d n

-- a name of a directory gives what an entry gave
abbrev pub given_at : Inodes → ℕ → List ℕ → Option NameEntry → Inodes
given_at m d n (Some (Ino i)) = put_at m d n (Ino i)
given_at m d n (Some White) = m
given_at m d n None = m

-- the directory that an entry gives moves to a name of a directory
abbrev pub moved_to : Inodes → ℕ → List ℕ → Bool → Option NameEntry → Inodes
moved_to m d n hides (Some (Ino i)) = edited (with_content (placed d n hides)) m i
moved_to m d n hides (Some White) = m
moved_to m d n hides None = m

-- a name of a directory gives what an entry gave; a directory moves there
abbrev pub given_to : Inodes → ℕ → List ℕ → Bool → Option NameEntry → Inodes
given_to m d n hides g = moved_to (given_at m d n g) d n hides g
