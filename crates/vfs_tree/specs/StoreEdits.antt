-- Edits of the names of a store.
use Rattle.std.specs.Prelude.{ℕ, Bool, true, false, ◌||◌, Option, Some, None, List}
use Rattle.std.specs.Ordering.{nat_cmp}
use Rattle.std.specs.FinMap.{FinMap, get, insert, remove, empty}
use Rattle.vfs_tree.specs.Nodes.{Names, entry_in, is_white}
use Rattle.vfs_tree.specs.Edits.{with_names, with_node, with_entry}
use Rattle.vfs_tree.specs.declared.node.NameEntry.{NameEntry}
use Rattle.vfs_tree.specs.declared.node.NameEntry.TheVariants.{Ino, White}
use Rattle.vfs_tree.specs.declared.node.Node.{Node}
use Rattle.vfs_tree.specs.declared.node.Node.TheVariants.{Dir, File, Link}
use Rattle.vfs_tree.specs.declared.node.Store.{Store}

-- what a store has at a name of a directory
abbrev pub entry_of : Store → ℕ → List ℕ → Option NameEntry
entry_of t dir n = entry_in n (get t.nodes dir)

-- a store with a node, where it is there, changed
abbrev pub with_node_at : (Node → Node) → Store → ℕ → Store
with_node_at f t i = record t { nodes = with_node f t.nodes i (get t.nodes i) }

-- an entry is put at a name of a directory
abbrev pub set_entry : Store → ℕ → List ℕ → NameEntry → Store
set_entry t dir n e = with_node_at (with_names (λ names. insert names n e)) t dir

-- the entry at a name of a directory goes
abbrev pub clear_entry : Store → ℕ → List ℕ → Store
clear_entry t dir n = with_node_at (with_names (λ names. remove names n)) t dir

-- a directory that is removed or replaced loses its whiteouts
abbrev pub emptied : Store → Option NameEntry → Store
emptied t (Some (Ino i)) = with_node_at (with_names (λ names. empty)) t i
emptied t (Some White) = t
emptied t None = t

-- drop: the entry goes, or becomes a whiteout where the directory is one of a union
abbrev pub drop_entry : Bool → Store → ℕ → List ℕ → Store
drop_entry true t dir n = set_entry t dir n White
drop_entry false t dir n = clear_entry t dir n

-- unlink and rmdir: the name is dropped, and what it gave loses its whiteouts
abbrev pub removed : Bool → Store → ℕ → List ℕ → Store
removed white t dir n = drop_entry white (emptied t (entry_of t dir n)) dir n

-- a directory gets its new parent, and becomes opaque where that is said
abbrev pub moved : ℕ → Bool → Node → Node
moved parent hides (Dir old opaque names) = Dir parent (opaque || hides) names
moved parent hides (File bytes) = File bytes
moved parent hides (Link target) = Link target

-- the new name gives what the old one gave
abbrev pub renamed_to : Store → ℕ → List ℕ → Bool → Option NameEntry → Store
renamed_to t dir n hides (Some (Ino i)) = with_node_at (moved dir hides) (set_entry t dir n (Ino i)) i
renamed_to t dir n hides (Some White) = t
renamed_to t dir n hides None = t

-- rename: what the new name gave loses its whiteouts, the old name is dropped, and the new name gives what the old one
-- gave. A directory becomes opaque where the new one is a directory of a union or a whiteout stood at the new name.
abbrev pub renamed : Bool → Bool → Store → ℕ → List ℕ → ℕ → List ℕ → Store
renamed white opaque t from old to new =
    renamed_to (drop_entry white (emptied t (entry_of t to new)) from old) to new (opaque || is_white (entry_of t to new)) (entry_of t from old)
