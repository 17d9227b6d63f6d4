-- What mounts stand on, also where a forced unmount has cut them off.
use Rattle.std.specs.Prelude.{ℕ, ◌≡◌, true, false, IfSome}
use Rattle.std.specs.FinMap.{get}
use Rattle.vfs_tree.specs.Facts.{Facts}
use Rattle.vfs_tree.specs.Layers.{kind_in}
use Rattle.vfs_tree.specs.Mounts.{is_of}
use Rattle.vfs_tree.specs.Place.{Seen, mount_of}
use Rattle.vfs_tree.specs.Sound.{IsSoundDir, EachLayer}
use Rattle.vfs_tree.specs.Views.{facts_of}
use Rattle.vfs_tree.specs.declared.world.World.{World}
use Rattle.call_laws.specs.Lasting.{IsOver}

-- a directory at a sound place, seen over the mounts of their lower layers
abbrev pub IsLayerDir : Facts → Seen → Type 0
IsLayerDir f p = IsSoundDir f p × IsOver f p

-- the layers of a mount, and of each mount on which it stands, are such directories
abbrev pub IsStanding : World → ℕ → Type 0
IsStanding w a = (n : ℕ) → is_of w.mounts n a ≡ true → IfSome (kind_in (facts_of w) n) (EachLayer (IsLayerDir (facts_of w)))

-- the mount of each open file that isn't dead stands so, a cut one too
abbrev pub AreStanding : World → Type 0
AreStanding w = (k : ℕ × ℕ) → IfSome (get w.opens k) (λ o. o.dead ≡ false → IsStanding w (mount_of o.place))

-- so does that of each live reference: of each open file and of each current directory that isn't dead
pub record AllStand (w : World) : Type 0 where
  pub opens : AreStanding w
  pub cwds : (c : ℕ) → IfSome (get w.cwds c) (λ d. d.dead ≡ false → IsStanding w (mount_of d.place))
