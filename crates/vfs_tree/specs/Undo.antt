-- What is put back for want of memory.
use Rattle.std.specs.Prelude.{ℕ, Bool, false, List, Option, Some, None}
use Rattle.std.specs.List.{list_any}
use Rattle.std.specs.FinMap.{get, values}
use Rattle.vfs_tree.specs.Counts.{gives_node, gives_some_at}
use Rattle.vfs_tree.specs.Edits.{with_names}
use Rattle.vfs_tree.specs.StoreEdits.{with_node_at, set_entry, clear_entry}
use Rattle.vfs_tree.specs.declared.node.NameEntry.{NameEntry}
use Rattle.vfs_tree.specs.declared.node.Store.{Store}
use Rattle.vfs_tree.specs.declared.store_edits.Taken.{Taken}

-- a directory gets its names back
abbrev pub refilled : Store → Option Taken → Store
refilled t (Some names) = with_node_at (with_names (λ _. names.names)) t names.ino
refilled t None = t

-- a name of a directory gets back what it had
abbrev pub restored : Store → ℕ → List ℕ → Option NameEntry → Store
restored t dir n (Some e) = set_entry t dir n e
restored t dir n None = clear_entry t dir n

-- whether names that were taken out give nodes
abbrev pub taken_gives : Option Taken → Bool
taken_gives (Some names) = list_any gives_node (values names.names)
taken_gives None = false

-- whether the directory whose names were taken out has names that give nodes
abbrev pub place_gives : Store → Option Taken → Bool
place_gives t (Some names) = gives_some_at (get t.nodes names.ino)
place_gives t None = false
