-- The references that forced unmounts and revokes doom next.
use Rattle.std.specs.Prelude.{ℕ, ◌≡◌, ◌≤◌, true, false, Some}
use Rattle.vfs_tree.specs.Layers.{base, depth}
use Rattle.vfs_tree.specs.Mounts.{is_of}
use Rattle.vfs_tree.specs.Place.{Seen, mount_of}
use Rattle.vfs_tree.specs.Views.{facts_of}
use Rattle.vfs_tree.specs.declared.walk.NodeId.{NodeId}
use Rattle.vfs_tree.specs.declared.world.World.{World}
use Rattle.call_model.specs.Refs.{comes_before, place_of}
use Rattle.call_model.specs.declared.entry.Ref.{Ref}
use Rattle.call_model.specs.declared.entry.Ref.TheVariants.{Fd, Cwd as Here}
use Rattle.call_laws.specs.Fitting.{IsLive}

-- a live reference stands in a mount, or in one that stands on it
pub record IsInside (w : World) (m : ℕ) (at : Ref) (place : Seen) : Type 0 where
  pub live : IsLive w at
  pub here : place_of w at ≡ Some place
  pub inside : is_of w.mounts m (mount_of place) ≡ true

-- an open file, and no current directory
abbrev pub IsDescriptor : Ref → Type 0
IsDescriptor (Fd c d) = Unit {0}
IsDescriptor (Here c) = ⊥

-- a live open file rests on a node
pub record IsOpenOn (w : World) (node : NodeId) (at : Ref) (place : Seen) : Type 0 where
  pub file : IsDescriptor at
  pub live : IsLive w at
  pub here : place_of w at ≡ Some place
  pub rests : base (facts_of w) place ≡ node

-- one of the references with a property: no other of them is at a greater depth, or comes before it at the same depth
pub record IsDeepestOf (w : World) (P : Ref → Seen → Type 0) (at : Ref) : Type 0 where
  pub place : Seen
  pub stands : P at place
  pub deepest : (r : Ref) (p : Seen) → P r p → depth (facts_of w) p ≤ depth (facts_of w) place
  pub first : (r : Ref) (p : Seen) → P r p → depth (facts_of w) p ≡ depth (facts_of w) place → comes_before r at ≡ false

-- of the live references in a mount, or in one that stands on it
abbrev pub IsDeepest : World → ℕ → Ref → Type 0
IsDeepest w m at = IsDeepestOf w (IsInside w m) at

-- of the live open files that rest on a node
abbrev pub IsDeepestOn : World → NodeId → Ref → Type 0
IsDeepestOn w node at = IsDeepestOf w (IsOpenOn w node) at
