-- Worlds whose mounts stand few layers deep, each over mounts with smaller numbers.
use Rattle.std.specs.Prelude.{ℕ, ◌≤◌, ◌<◌, IfSome}
use Rattle.vfs_tree.specs.Layers.{kind_in, depth}
use Rattle.vfs_tree.specs.Place.{Seen, Mem, Null, UnionUp, UnionLow, mount_of}
use Rattle.vfs_tree.specs.Sound.{EachLayer}
use Rattle.vfs_tree.specs.Views.{facts_of}
use Rattle.vfs_tree.specs.declared.world.World.{World}
use Rattle.call_model.specs.MountRows.{most_depth}

-- what a place is seen over lies in a mount with a smaller number, and so on
abbrev pub IsFalling : Seen → Type 0
IsFalling (Mem m i) = Unit {0}
IsFalling (Null m p) = (mount_of p < m) × IsFalling p
IsFalling (UnionUp m i) = Unit {0}
IsFalling (UnionLow m u n p) = (mount_of p < m) × IsFalling p

pub record IsLayered (w : World) : Type 0 where
  -- a place has no more layers under it than a place may have
  pub few : (p : Seen) → depth (facts_of w) p ≤ most_depth
  -- the layers of each mount, of a cut one too, are falling
  pub falling : (m : ℕ) → IfSome (kind_in (facts_of w) m) (EachLayer IsFalling)
