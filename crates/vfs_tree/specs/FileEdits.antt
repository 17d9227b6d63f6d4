-- Edits of the files of a store.
use Rattle.std.specs.Prelude.{ℕ, List}
use Rattle.vfs_tree.specs.Bytes.{resize_bytes, write_bytes}
use Rattle.vfs_tree.specs.StoreEdits.{with_node_at}
use Rattle.vfs_tree.specs.declared.node.Node.{Node}
use Rattle.vfs_tree.specs.declared.node.Node.TheVariants.{Dir, File, Link}
use Rattle.vfs_tree.specs.declared.node.Store.{Store}

-- a node whose bytes, where it is a regular file, are changed
abbrev pub with_bytes : (List ℕ → List ℕ) → Node → Node
with_bytes f (File bytes) = File (f bytes)
with_bytes f (Dir parent opaque names) = Dir parent opaque names
with_bytes f (Link target) = Link target

-- a piece is put at an offset of a regular file
abbrev pub written : Store → ℕ → ℕ → List ℕ → Store
written t i at bytes = with_node_at (with_bytes (λ old. write_bytes old at bytes)) t i

-- a regular file gets a length
abbrev pub resized : Store → ℕ → ℕ → Store
resized t i len = with_node_at (with_bytes (λ old. resize_bytes old len)) t i
