-- Live references: the open files and current directories that aren't dead, and which of them is the first.
use Rattle.std.specs.Prelude.{ℕ, Bool, true, false, not, ◌&&◌, ◌||◌, ◌==◌, nat_lt, List, ◌++◌, map, Option, Some, None, option_map}
use Rattle.std.specs.List.{filter, fold}
use Rattle.std.specs.FinMap.{get, entries}
use Rattle.vfs_tree.specs.Place.{Seen, mount_of}
use Rattle.vfs_tree.specs.Facts.{Facts}
use Rattle.vfs_tree.specs.Layers.{depth, base, same_node}
use Rattle.vfs_tree.specs.Mounts.{is_of}
use Rattle.vfs_tree.specs.Views.{facts_of}
use Rattle.vfs_tree.specs.declared.open.Cwd.{Cwd}
use Rattle.vfs_tree.specs.declared.open.Open.{Open}
use Rattle.vfs_tree.specs.declared.world.World.{World}
use Rattle.call_model.specs.declared.entry.Ref.{Ref}
use Rattle.call_model.specs.declared.entry.Ref.TheVariants.{Fd, Cwd as Here}

-- an open file or current directory, its place, and whether it is dead
pub record Reference : Type 0 where
  pub at : Ref
  pub place : Seen
  pub dead : Bool

-- ---- all of them

abbrev pub open_reference : (ℕ × ℕ) × Open → Reference
open_reference e = record { at = Fd e.0.0 e.0.1; place = e.1.place; dead = e.1.dead }

abbrev pub cwd_reference : ℕ × Cwd → Reference
cwd_reference e = record { at = Here e.0; place = e.1.place; dead = e.1.dead }

-- the open files by caller and descriptor
abbrev pub open_references : World → List Reference
open_references w = map open_reference (entries w.opens)

-- and the current directories by caller
abbrev pub references : World → List Reference
references w = open_references w ++ map cwd_reference (entries w.cwds)

-- ---- the first

-- by caller, then descriptors upwards, then the current directory
abbrev pub comes_before : Ref → Ref → Bool
comes_before (Fd c d) (Fd e f) = nat_lt c e || ((c == e) && nat_lt d f)
comes_before (Fd c d) (Here e) = not (nat_lt e c)
comes_before (Here c) (Fd e f) = nat_lt c e
comes_before (Here c) (Here e) = nat_lt c e

-- the one with the place of the greater depth, and else the one that comes before
abbrev pub stands_first : Facts → Reference → Reference → Bool
stands_first f a b =
    nat_lt (depth f b.place) (depth f a.place) || ((depth f a.place == depth f b.place) && comes_before a.at b.at)

abbrev pub first_case : Reference → Reference → Bool → Option Reference
first_case best r true = Some r
first_case best r false = Some best

abbrev pub first_of_two : Facts → Option Reference → Reference → Option Reference
first_of_two f None r = Some r
first_of_two f (Some best) r = first_case best r (stands_first f r best)

-- the first of some references: a reference that stands on another place is deeper, so it comes before that one
abbrev pub first : Facts → List Reference → Option Reference
first f rs = fold (first_of_two f) None rs

-- the first live reference of those that pass a test
abbrev pub first_live : World → (Reference → Bool) → List Reference → Option Ref
first_live w test rs = option_map (λ r. r.at) (first (facts_of w) (filter (λ r. not r.dead && test r) rs))

-- the first live reference in a mount or in one that stands on it
abbrev pub first_in : World → ℕ → Option Ref
first_in w m = first_live w (λ r. is_of w.mounts m (mount_of r.place)) (references w)

-- the first live open file that rests on the same node as a place
abbrev pub first_open : World → Seen → Option Ref
first_open w p = let f = facts_of w in first_live w (λ r. same_node (base f r.place) (base f p)) (open_references w)

-- ---- the place of one

abbrev pub place_of : World → Ref → Option Seen
place_of w (Fd c d) = option_map (λ o. o.place) (get w.opens (c, d))
place_of w (Here c) = option_map (λ d. d.place) (get w.cwds c)
