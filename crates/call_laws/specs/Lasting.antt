-- What holds of every world that calls leave, besides that it is sound: what keeps it so.
use Rattle.std.specs.Prelude.{ℕ, ◌≡◌, ◌≤◌, ◌<◌, true, false, Option, Some, None, IsSome, IfSome}
use Rattle.std.specs.FinMap.{get}
use Rattle.vfs_tree.specs.Facts.{Facts}
use Rattle.vfs_tree.specs.Layers.{kind_in, is_cut, is_dir}
use Rattle.vfs_tree.specs.Nodes.{IsNumbered}
use Rattle.vfs_tree.specs.Place.{Seen, Mem, Null, UnionUp, UnionLow, mount_of}
use Rattle.vfs_tree.specs.Sound.{EachPlace}
use Rattle.vfs_tree.specs.Views.{facts_of}
use Rattle.vfs_tree.specs.declared.mount.MountKind.{MountKind}
use Rattle.vfs_tree.specs.declared.mount.MountKind.TheVariants as kind
use Rattle.vfs_tree.specs.declared.world.World.{World}

-- the mount in which the lower layer lies
abbrev pub lower_mount : Option MountKind → Option ℕ
lower_mount (Some kind.Mem) = None
lower_mount (Some (kind.Null layer)) = Some (mount_of layer)
lower_mount (Some (kind.Union s u lower)) = Some (mount_of lower)
lower_mount None = None

-- what a place is seen over lies in the mount of the lower layer
abbrev pub IsOver : Facts → Seen → Type 0
IsOver f (Mem m i) = Unit {0}
IsOver f (Null m p) = (lower_mount (kind_in f m) ≡ Some (mount_of p)) × IsOver f p
IsOver f (UnionUp m i) = Unit {0}
IsOver f (UnionLow m u n p) = (lower_mount (kind_in f m) ≡ Some (mount_of p)) × IsOver f p

-- no mount that a place names is cut
abbrev pub IsUncut : Facts → Seen → Type 0
IsUncut f (Mem m i) = is_cut f m ≡ false
IsUncut f (Null m p) = (is_cut f m ≡ false) × IsUncut f p
IsUncut f (UnionUp m i) = is_cut f m ≡ false
IsUncut f (UnionLow m u n p) = (is_cut f m ≡ false) × IsUncut f p

-- numbers of mounts, stores and inodes are below the next ones, which 32 bits hold
pub record AreCounted (w : World) : Type 0 where
  pub mounts : (m : ℕ) → IsSome (get w.mounts m) → m < w.next_mount
  pub stores : (s : ℕ) → IsSome (get w.stores s) → s < w.next_mount
  pub most : w.next_mount ≤ 4294967295
  pub inodes : (s : ℕ) → IfSome (get w.stores s) (λ t. t.next ≤ 4294967295)

pub record IsLasting (w : World) : Type 0 where
  -- inode numbers are below the next one
  pub numbered : IsNumbered w
  -- mounts stand by their numbers
  pub mounts : (m : ℕ) → IfSome (get w.mounts m) (λ t. t.number ≡ m)
  -- the root of a memory file system is there
  pub roots : (m : ℕ) → kind_in (facts_of w) m ≡ Some kind.Mem → IsSome ((facts_of w).kind m 1)
  -- and the parent of each directory
  pub parents : (s i : ℕ) → IfSome ((facts_of w).dir s i) (λ d. IsSome ((facts_of w).kind s d.parent))
  -- mount 0 isn't cut
  pub first : is_cut (facts_of w) 0 ≡ false
  -- nor is what a mount that isn't cut stands on, or covers
  pub uncut : (m : ℕ) → IfSome (get w.mounts m) (λ t. t.cut ≡ false → EachPlace (IsUncut (facts_of w)) t)
  -- and that lies over the mounts of the lower layers
  pub overs : (m : ℕ) → IfSome (get w.mounts m) (λ t. t.cut ≡ false → EachPlace (IsOver (facts_of w)) t)
  -- so does what is open
  pub opens : (k : ℕ × ℕ) → IfSome (get w.opens k) (λ o. o.dead ≡ false → IsOver (facts_of w) o.place)
  -- and what is a current directory, which is a directory
  pub cwds : (c : ℕ) → IfSome (get w.cwds c) (λ d. d.dead ≡ false → IsOver (facts_of w) d.place × (is_dir (facts_of w) d.place ≡ true))
  -- a mount that a caller is leaving is cut
  pub left : (c : ℕ) → IfSome (get w.leaving c) (λ m. (m < w.next_mount) × IfSome (get w.mounts m) (λ t. t.cut ≡ true))
  -- numbers are below the next ones
  pub counted : AreCounted w
