-- What paths find: places in mounts that aren't cut.
use Rattle.std.specs.Prelude.{ℕ, ◌≡◌, true, false}
use Rattle.vfs_tree.specs.Layers.{is_cut}
use Rattle.vfs_tree.specs.Mounts.{is_of}
use Rattle.vfs_tree.specs.Place.{Seen, mount_of}
use Rattle.vfs_tree.specs.Sound.{IsSoundPlace}
use Rattle.vfs_tree.specs.Views.{facts_of}
use Rattle.vfs_tree.specs.declared.world.World.{World}
use Rattle.call_laws.specs.Lasting.{IsOver, IsUncut}

-- a sound place in mounts that aren't cut, each seen over the mount of its lower layer
pub record IsWellPlaced (w : World) (p : Seen) : Type 0 where
  pub sound : IsSoundPlace (facts_of w) p
  -- no mount that it names is cut
  pub uncut : IsUncut (facts_of w) p
  pub over : IsOver (facts_of w) p
  -- nor is any on which its mount stands
  pub below : (n : ℕ) → is_of w.mounts n (mount_of p) ≡ true → is_cut (facts_of w) n ≡ false
