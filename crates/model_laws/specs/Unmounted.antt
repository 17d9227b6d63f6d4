-- What is left when a mount goes.
use Rattle.std.specs.Prelude.{ℕ, ◌≡◌, false, Some, IfSome}
use Rattle.std.specs.FinMap.{get}
use Rattle.vfs_tree.specs.Mounts.{is_left, is_of}
use Rattle.vfs_tree.specs.Place.{Seen, mount_of}
use Rattle.vfs_tree.specs.Sound.{IsSoundPlace, EachLayer, EachPlace}
use Rattle.vfs_tree.specs.Views.{facts_of}
use Rattle.vfs_tree.specs.declared.open.Cwd.{Cwd}
use Rattle.vfs_tree.specs.declared.open.Open.{Open}
use Rattle.vfs_tree.specs.declared.world.World.{World}
use Rattle.call_model.specs.Checks.{node_of}
use Rattle.call_laws.specs.Lasting.{IsOver}

-- a place is sound in the new world, and the same node stands there as in the old one
pub record StaysWhole (old new : World) (p : Seen) : Type 0 where
  pub sound : IsSoundPlace (facts_of new) p
  pub node : node_of new p ≡ node_of old p

-- What is open and isn't dead is there as it was, and its place stays whole; so with current directories. Each layer and
-- covered directory of a mount that isn't cut stays whole.
pub record AllStay (old new : World) : Type 0 where
  pub opens : (k : ℕ × ℕ) → IfSome (get old.opens k) (λ o. o.dead ≡ false → (get new.opens k ≡ Some o) × StaysWhole old new o.place)
  pub cwds : (c : ℕ) → IfSome (get old.cwds c) (λ d. d.dead ≡ false → (get new.cwds c ≡ Some d) × StaysWhole old new d.place)
  pub mounts : (m : ℕ) → IfSome (get new.mounts m) (λ t. t.cut ≡ false → EachPlace (StaysWhole old new) t)

-- where a place was there, sound and over the mounts of the lower layers, it stays whole
abbrev pub StaysThere : World → World → Seen → Type 0
StaysThere old new p = IsSoundPlace (facts_of old) p → IsOver (facts_of old) p → StaysWhole old new p

-- so with the layers of each mount, also of one that is cut, and with the directory that it covers
pub record LayersStay (old new : World) : Type 0 where
  pub layers : (m : ℕ) → IfSome (get new.mounts m) (λ t. EachLayer (StaysThere old new) t.kind)
  -- unless a caller is leaving the mount
  pub covered : (m : ℕ) → IfSome (get new.mounts m) (λ t. is_left old.leaving t.number ≡ false → IfSome t.on (StaysThere old new))

-- no open file or current directory of the new world that isn't dead lies in a mount of the old one, or in one that stood
-- on it
pub record NoneIn (old new : World) (m : ℕ) : Type 0 where
  pub opens : (k : ℕ × ℕ) (o : Open) → get new.opens k ≡ Some o → o.dead ≡ false → is_of old.mounts m (mount_of o.place) ≡ false
  pub cwds : (c : ℕ) (d : Cwd) → get new.cwds c ≡ Some d → d.dead ≡ false → is_of old.mounts m (mount_of d.place) ≡ false
