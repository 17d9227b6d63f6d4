-- The lines of a node.
use Rattle.std.specs.Prelude.{ℕ, ◌+◌, Bool, true, false, ◌==◌, List, [], ◌∷◌, ◌++◌, length, flat_map, codes, decimal}
use Rattle.std.specs.List.{slice_split}
use Rattle.std.specs.FinMap.{entries}
use Rattle.vfs_tree.specs.declared.node.NameEntry.{NameEntry}
use Rattle.vfs_tree.specs.declared.node.NameEntry.TheVariants as entry
use Rattle.vfs_tree.specs.declared.node.Node.{Node}
use Rattle.vfs_tree.specs.declared.node.Node.TheVariants as node
use Rattle.script_text.specs.Word.{word_text}

-- a part of a file that stands between zero bytes, at its offset; nothing for an empty part
abbrev pub run_text : ℕ → List ℕ → List ℕ
run_text offset [] = []
run_text offset (b ∷ bs) = 32 ∷ [] ++ decimal offset ++ 58 ∷ [] ++ word_text (b ∷ bs)

-- the parts between zero bytes, the first one at this offset
abbrev pub parts_text : ℕ → List (List ℕ) → List ℕ
parts_text offset [] = []
parts_text offset (part ∷ parts) = run_text offset part ++ parts_text (offset + (length part + 1)) parts

-- the longest runs of bytes other than zero
abbrev pub runs_text : List ℕ → List ℕ
runs_text bytes = parts_text 0 (slice_split (λ b. b == 0) bytes)

-- the line of a name in a directory
abbrev pub name_text : List ℕ → NameEntry → List ℕ
name_text name (entry.Ino ino) = codes "name " ++ word_text name ++ 32 ∷ [] ++ decimal ino ++ 10 ∷ []
name_text name entry.White = codes "white " ++ word_text name ++ 10 ∷ []

-- whether a union shows nothing of the lower layer in the directory
abbrev pub opaque_text : Bool → List ℕ
opaque_text true = codes " opaque\n"
opaque_text false = codes " plain\n"

-- the lines of the node with this inode number
abbrev pub node_text : ℕ → Node → List ℕ
node_text ino (node.Dir parent opaque names) =
    codes "dir " ++ decimal ino ++ 32 ∷ [] ++ decimal parent ++ opaque_text opaque ++ flat_map (λ e. name_text e.0 e.1) (entries names)
node_text ino (node.File bytes) = codes "file " ++ decimal ino ++ 32 ∷ [] ++ decimal (length bytes) ++ runs_text bytes ++ 10 ∷ []
node_text ino (node.Link target) = codes "link " ++ decimal ino ++ 32 ∷ [] ++ word_text target ++ 10 ∷ []
