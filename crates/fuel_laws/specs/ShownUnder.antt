-- What is shown below what a directory shows at a name.
use Rattle.std.specs.Prelude.{ℕ, List, Option, None}
use Rattle.vfs_tree.specs.Child.{low_by}
use Rattle.vfs_tree.specs.Facts.{Facts}
use Rattle.vfs_tree.specs.Layers.{kind_in}
use Rattle.vfs_tree.specs.Shown.{Shown, shown, shown_child}
use Rattle.vfs_tree.specs.declared.walk.Child.{Child}
use Rattle.vfs_tree.specs.declared.walk.Child.TheVariants as child
use Rattle.vfs_tree.specs.declared.world.World.{World}

-- the tree below a place, and none where nothing is shown
abbrev pub shown_under : World → Child → List (List ℕ) → Option Shown
shown_under w (child.At p) ns = shown w p ns
shown_under w child.Absent ns = None
shown_under w (child.Need x) ns = None

-- what the lower layer shows in the place of a union's directory
abbrev pub shown_lower : Facts → ℕ → ℕ → Child
shown_lower f m u = low_by f (shown_child f) u (kind_in f m)
