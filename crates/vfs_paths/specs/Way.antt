-- The way to a union's directory: how its lower part is found without going up and down again.
use Rattle.std.specs.Prelude.{ℕ, zero, suc, Bool, true, false, ◌||◌, ◌==◌, List, [], ◌∷◌, Option, Some, None}
use Rattle.vfs_tree.specs.Place.{Seen}
use Rattle.vfs_tree.specs.Facts.{Facts}
use Rattle.vfs_tree.specs.Layers.{is_opaque, parent_ino}
use Rattle.vfs_tree.specs.Child.{Lookup, only_dir, child_below}
use Rattle.vfs_tree.specs.declared.walk.Child.{Child}
use Rattle.vfs_tree.specs.declared.walk.Child.TheVariants as child

abbrev pub Names : Type 0
Names = List (List ℕ)

abbrev pub way_case : (Names → Option Names) → Names → Option (List ℕ) → Bool → Bool → Option Names
way_case up below name true ends = Some below
way_case up below name false true = None
way_case up below (Some n) false false = up (n ∷ below)
way_case up below None false false = None

-- The names on the way from a union's upper layer down to a directory, the uppermost first, and those below it after
-- them. There is no way where one of the directories is opaque or the root of its store.
abbrev pub way_within : ℕ → Facts → ℕ → ℕ → ℕ → Names → Option Names
way_within zero f s upper u below = None
way_within (suc k) f s upper u below =
    way_case (way_within k f s upper (parent_ino f s u)) below (f.name_of s u) (u == upper) (is_opaque f s u || (u == 1))

-- what the lower layer has at the end of a way, where directories lead to it
abbrev pub down : Facts → Lookup → Child → Names → Child
down f look d [] = d
down f look d (n ∷ ns) = down f look (only_dir f (child_below look d n)) ns

-- the lower part of a directory by its way
abbrev pub by_way : Facts → Lookup → Seen → Option Names → Child
by_way f look lower (Some ns) = down f look (child.At lower) ns
by_way f look lower None = child.Absent
