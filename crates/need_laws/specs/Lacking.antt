-- What a union has in its lower layer alone.
use Rattle.std.specs.Prelude.{ℕ, ◌≡◌, false, List, [], ◌∷◌, Some}
use Rattle.vfs_tree.specs.Child.{child_of}
use Rattle.vfs_tree.specs.Layers.{kind_in, is_cut}
use Rattle.vfs_tree.specs.Place.{Seen, UnionUp, UnionLow}
use Rattle.vfs_tree.specs.Shown.{shown}
use Rattle.vfs_tree.specs.Shown as seen
use Rattle.vfs_tree.specs.Views.{facts_of}
use Rattle.vfs_tree.specs.declared.mount.MountKind.TheVariants as kind
use Rattle.vfs_tree.specs.declared.walk.Child.TheVariants as child
use Rattle.vfs_tree.specs.declared.world.World.{World}
use Rattle.call_model.specs.Checks.{is_full}
use Rattle.call_laws.specs.Needing.{IsFree}

-- a union that has nothing at a name of an upper directory, and a number left in the upper layer's store; it shows a
-- directory there, where it isn't cut off
pub record LacksDir (w : World) (m u : ℕ) (n : List ℕ) : Type 0 where
  pub store : ℕ
  pub top : ℕ
  pub lower : Seen
  pub union : kind_in (facts_of w) m ≡ Some (kind.Union store top lower)
  pub free : IsFree (facts_of w) m u n
  pub room : is_full w store ≡ false
  pub shows : is_cut (facts_of w) m ≡ false → shown w (UnionUp m u) (n ∷ []) ≡ Some seen.Dir

-- a union that isn't cut off, with a number left in the upper layer's store, and with a file or link of the lower layer
-- alone at a name
pub record LacksFile (w : World) (m u : ℕ) (n : List ℕ) : Type 0 where
  pub store : ℕ
  pub top : ℕ
  pub lower : Seen
  pub file : Seen
  pub union : kind_in (facts_of w) m ≡ Some (kind.Union store top lower)
  pub uncut : is_cut (facts_of w) m ≡ false
  pub room : is_full w store ≡ false
  pub there : child_of (facts_of w) (UnionUp m u) n ≡ child.At (UnionLow m u n file)
