-- The parts of an output, each of which can be appended by itself.
use Rattle.std.specs.Prelude.{ℕ, List, [], ◌∷◌, ◌++◌, map, flat_map, Option, Some, None}
use Rattle.std.specs.Ordering.{nat_cmp}
use Rattle.std.specs.FinMap.{FinMap, entries, get}
use Rattle.vfs_tree.specs.declared.node.Store.{Store}
use Rattle.vfs_tree.specs.declared.mount.Mount.{Mount}
use Rattle.vfs_tree.specs.declared.mount.MountKind.{MountKind}
use Rattle.vfs_tree.specs.declared.mount.MountKind.TheVariants as kind
use Rattle.vfs_tree.specs.declared.world.World.{World}
use Rattle.call_model.specs.declared.entry.Entry.{Entry}
use Rattle.trace_text.specs.History.{entry_line}
use Rattle.trace_text.specs.Mount.{mount_text}
use Rattle.trace_text.specs.Trees.{shown_text}
use Rattle.trace_text.specs.Output.{first_line, trees_line, last_line}

-- the nodes of a store by inode number; that of a node which isn't shown is empty
abbrev pub store_parts : Store → List (List ℕ)
store_parts store = map (λ e. shown_text store e.0 e.1) (entries store.nodes)

-- the nodes of a memory mount
abbrev pub nodes_parts : MountKind → Option Store → List (List ℕ)
nodes_parts kind.Mem (Some store) = store_parts store
nodes_parts kind.Mem None = []
nodes_parts (kind.Null layer) store = []
nodes_parts (kind.Union store upper lower) s = []

-- a mount, and its nodes
abbrev pub tree_parts : FinMap nat_cmp Store → ℕ → Mount → List (List ℕ)
tree_parts stores number mount = mount_text number mount ∷ nodes_parts mount.kind (get stores number)

-- the first line, the entries, the line between, the mounts with their nodes, and the last line
abbrev pub output_parts : List Entry → World → List (List ℕ)
output_parts history world =
    first_line ∷ (map entry_line history ++ trees_line ∷ (flat_map (λ e. tree_parts world.stores e.0 e.1) (entries world.mounts) ++ last_line ∷ []))
