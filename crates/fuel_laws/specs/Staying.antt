-- What stays of an open file or a current directory when others copy and doom.
use Rattle.std.specs.Prelude.{◌≡◌, Option, Some, None}
use Rattle.vfs_tree.specs.declared.open.Cwd.{Cwd}
use Rattle.vfs_tree.specs.declared.open.Open.{Open}

-- all but its place
abbrev pub StaysButPlace : Option Open → Option Open → Type 0
StaysButPlace (Some old) (Some new) = (new.offset ≡ old.offset) × (new.mode ≡ old.mode) × (new.dead ≡ old.dead)
StaysButPlace (Some old) None = ⊥
StaysButPlace None (Some new) = ⊥
StaysButPlace None None = Unit {0}

-- all but whether it is dead
abbrev pub StaysButDead : Option Open → Option Open → Type 0
StaysButDead (Some old) (Some new) = (new.place ≡ old.place) × (new.offset ≡ old.offset) × (new.mode ≡ old.mode)
StaysButDead (Some old) None = ⊥
StaysButDead None (Some new) = ⊥
StaysButDead None None = Unit {0}

-- all but its offset, where it is open before and after
abbrev pub StaysButOffset : Option Open → Option Open → Type 0
StaysButOffset (Some old) (Some new) = (new.place ≡ old.place) × (new.mode ≡ old.mode) × (new.dead ≡ old.dead)
StaysButOffset (Some old) None = Unit {0}
StaysButOffset None (Some new) = Unit {0}
StaysButOffset None None = Unit {0}

-- a current directory keeps its place
abbrev pub KeepsPlace : Option Cwd → Option Cwd → Type 0
KeepsPlace (Some old) (Some new) = new.place ≡ old.place
KeepsPlace (Some old) None = ⊥
KeepsPlace None (Some new) = ⊥
KeepsPlace None None = Unit {0}
