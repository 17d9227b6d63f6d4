-- When a look-up found the file.
use Rattle.std.specs.Prelude.{ℕ, Bool, false, ◌==◌, Option, Some, None}
use Rattle.vfs_tree.specs.declared.node.NameEntry.{NameEntry}
use Rattle.vfs_tree.specs.declared.node.NameEntry.TheVariants.{Ino, White}

-- whether an entry gives the file
abbrev pub gives : ℕ → Option NameEntry → Bool
gives file (Some (Ino i)) = i == file
gives file (Some White) = false
gives file None = false
