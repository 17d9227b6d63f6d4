-- The line of a mount.
use Rattle.std.specs.Prelude.{ℕ, Bool, true, false, List, [], ◌∷◌, ◌++◌, codes, decimal, Option, Some, None}
use Rattle.vfs_tree.specs.Place.{Seen, Mem}
use Rattle.vfs_tree.specs.declared.mount.Mount.{Mount}
use Rattle.vfs_tree.specs.declared.mount.MountKind.{MountKind}
use Rattle.vfs_tree.specs.declared.mount.MountKind.TheVariants as kind
use Rattle.trace_text.specs.Place.{place_text}

-- the word of what a mount shows
abbrev pub mount_kind_word : MountKind → List ℕ
mount_kind_word kind.Mem = codes "mem"
mount_kind_word (kind.Null layer) = codes "null"
mount_kind_word (kind.Union store upper lower) = codes "union"

-- what the mount covers; `-` for the root mount, which covers nothing
abbrev pub on_text : Option Seen → List ℕ
on_text None = codes " on -"
on_text (Some place) = codes " on " ++ place_text place

-- the layers of a mount
abbrev pub layers_text : MountKind → List ℕ
layers_text kind.Mem = []
layers_text (kind.Null layer) = codes " over " ++ place_text layer
layers_text (kind.Union store upper lower) = codes " up " ++ place_text (Mem store upper) ++ codes " low " ++ place_text lower

-- whether a forced unmount has cut the mount off, and the line end
abbrev pub cut_text : Bool → List ℕ
cut_text true = codes " cut\n"
cut_text false = codes "\n"

-- the number and kind of a mount
abbrev pub mount_head : ℕ → MountKind → List ℕ
mount_head number kind = codes "mount " ++ decimal number ++ 32 ∷ [] ++ mount_kind_word kind

-- the line of the mount with this number
abbrev pub mount_text : ℕ → Mount → List ℕ
mount_text number mount = mount_head number mount.kind ++ on_text mount.on ++ layers_text mount.kind ++ cut_text mount.cut
