-- What the layers of mounts lie over, also of mounts that a forced unmount has cut off.
use Rattle.std.specs.Prelude.{ℕ, ◌≡◌, true, false, IfSome}
use Rattle.std.specs.FinMap.{get}
use Rattle.vfs_tree.specs.Mounts.{is_left}
use Rattle.vfs_tree.specs.Place.{Seen}
use Rattle.vfs_tree.specs.Sound.{names_mounts, IsSoundPlace, EachLayer, EachPlace}
use Rattle.vfs_tree.specs.Views.{facts_of}
use Rattle.vfs_tree.specs.declared.world.World.{World}
use Rattle.call_laws.specs.Lasting.{IsOver}
use Rattle.model_laws.specs.Unmounted.{StaysWhole}

-- where a place names only mounts that are there, it lies over the mounts of the lower layers
abbrev pub LiesOver : World → Seen → Type 0
LiesOver w p = names_mounts (facts_of w) p ≡ true → IsOver (facts_of w) p

-- so with each layer and covered directory of a mount, also of one that is cut
abbrev pub LayersLieOver : World → Type 0
LayersLieOver w = (m : ℕ) → IfSome (get w.mounts m) (EachPlace (LiesOver w))

-- where a place was sound, it stays whole
abbrev pub SoundStays : World → World → Seen → Type 0
SoundStays old new p = IsSoundPlace (facts_of old) p → StaysWhole old new p

-- so with the layers of each mount, also of one that is cut, and with the directory that it covers
pub record SoundLayersStay (old new : World) : Type 0 where
  pub layers : (m : ℕ) → IfSome (get new.mounts m) (λ t. EachLayer (SoundStays old new) t.kind)
  -- unless a caller is leaving the mount
  pub covered : (m : ℕ) → IfSome (get new.mounts m) (λ t. is_left old.leaving t.number ≡ false → IfSome t.on (SoundStays old new))
