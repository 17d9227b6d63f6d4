-- What places stand on: those under them, through null mounts and unions.
use Rattle.std.specs.Prelude.{◌≡◌, ◌⊎◌, Some, IfSome}
use Rattle.vfs_tree.specs.Child.{low}
use Rattle.vfs_tree.specs.Facts.{Facts}
use Rattle.vfs_tree.specs.Layers.{kind_in, store_by}
use Rattle.vfs_tree.specs.Place.{Seen, Mem, Null, UnionUp, UnionLow}
use Rattle.vfs_tree.specs.Views.{facts_of}
use Rattle.vfs_tree.specs.declared.walk.Child.TheVariants as child
use Rattle.vfs_tree.specs.declared.world.World.{World}
use Rattle.call_model.specs.Refs.{place_of}
use Rattle.call_model.specs.declared.entry.Ref.{Ref}
use Rattle.call_laws.specs.Fitting.{IsLive}

-- A place of a null mount stands right on the one that is seen through it; one of a union, on its upper node and on its
-- lower part, or on the file or link that the union has in its lower layer alone.
abbrev pub StandsRightOn : Facts → Seen → Seen → Type 0
StandsRightOn f (Mem m i) p = ⊥
StandsRightOn f (Null m lower) p = lower ≡ p
StandsRightOn f (UnionUp m i) p = (Mem (store_by (kind_in f m)) i ≡ p) ⊎ (low f m i ≡ child.At p)
StandsRightOn f (UnionLow m u n lower) p = lower ≡ p

-- a place stands on those on which it stands right, and on all that these stand on
pub data StandsOn (f : Facts) : Seen → Seen → Type 0 where
  Right : {q p : Seen} → StandsRightOn f q p → StandsOn f q p
  Further : {q r p : Seen} → StandsRightOn f q r → StandsOn f r p → StandsOn f q p

-- no live reference stands on the place
abbrev pub IsOnTop : World → Seen → Type 0
IsOnTop w p = (r : Ref) (q : Seen) → IsLive w r → place_of w r ≡ Some q → StandsOn (facts_of w) q p → ⊥

-- nor on the place of a reference
abbrev pub StandsOnTop : World → Ref → Type 0
StandsOnTop w at = IfSome (place_of w at) (IsOnTop w)
