-- The tree that a directory shows: the names, kinds, contents and links that stand below it.
use Rattle.std.specs.Prelude.{ℕ, zero, suc, if◌then◌else◌, List, [], ◌∷◌, Option, Some, None, option_map}
use Rattle.vfs_tree.specs.Place.{Seen, Mem, Null, UnionUp, UnionLow, mount_of}
use Rattle.vfs_tree.specs.Facts.{Facts}
use Rattle.vfs_tree.specs.Layers.{kind_in, base, is_dir}
use Rattle.vfs_tree.specs.Child.{Lookup, child_mem, child_null, child_below, low_by, upper_entry}
use Rattle.vfs_tree.specs.Nodes.{node_at}
use Rattle.vfs_tree.specs.Views.{facts_of}
use Rattle.vfs_tree.specs.declared.node.NameEntry.{NameEntry}
use Rattle.vfs_tree.specs.declared.node.NameEntry.TheVariants.{Ino, White}
use Rattle.vfs_tree.specs.declared.node.Node.{Node}
use Rattle.vfs_tree.specs.declared.node.Node.TheVariants as node
use Rattle.vfs_tree.specs.declared.walk.Child.{Child}
use Rattle.vfs_tree.specs.declared.walk.Child.TheVariants as child
use Rattle.vfs_tree.specs.declared.world.World.{World}

-- ---- what a directory shows at a name: what it has there, but nothing waits for a shadow directory

-- what the lower layer alone has: a directory is shown as the lower layer shows it
abbrev pub shown_low : Facts → ℕ → ℕ → List ℕ → Child → Child
shown_low f m u n (child.At q) = if is_dir f q then child.At q else child.At (UnionLow m u n q)
shown_low f m u n child.Absent = child.Absent
shown_low f m u n (child.Need x) = child.Absent

-- by the upper entry: an inode or a whiteout hides what the lower part shows
abbrev pub shown_union : Facts → ℕ → ℕ → List ℕ → Option NameEntry → (List ℕ → Child) → Child
shown_union f m u n (Some (Ino i)) below = child.At (UnionUp m i)
shown_union f m u n (Some White) below = child.Absent
shown_union f m u n None below = shown_low f m u n (below n)

-- through at most k mounts. The lower part of a union's directory is what the lower layer shows in its place.
abbrev pub shown_within : ℕ → Facts → Lookup
shown_within zero f d n = child.Absent
shown_within (suc k) f (Mem m i) n = child_mem m (f.entry m i n)
shown_within (suc k) f (Null m p) n = child_null m (shown_within k f p n)
shown_within (suc k) f (UnionUp m u) n =
    shown_union f m u n (upper_entry f (kind_in f m) u n) (child_below (shown_within k f) (low_by f (shown_within k f) u (kind_in f m)))
shown_within (suc k) f (UnionLow m u a p) n = child.Absent

-- What a directory shows at a name. The layers of a mount lie in mounts with smaller numbers, so no more are passed than
-- its number.
abbrev pub shown_child : Facts → Lookup
shown_child f d n = shown_within (suc (mount_of d)) f d n

-- ---- along names

-- what is shown at the end of some names, one below the other
abbrev pub shown_along : Facts → Child → List (List ℕ) → Child
shown_along f d [] = d
shown_along f d (n ∷ ns) = shown_along f (child_below (shown_child f) d n) ns

-- the place of what a directory shows at the end of some names
abbrev pub shown_place : Facts → Seen → List (List ℕ) → Child
shown_place f d ns = shown_along f (child.At d) ns

-- ---- what stands there

-- a directory, a regular file with its bytes, or a link with its target
pub data Shown : Type 0 where
  Dir : Shown
  File : (bytes : List ℕ) → Shown
  Link : (target : List ℕ) → Shown

abbrev pub shown_node : Node → Shown
shown_node (node.Dir parent opaque names) = Dir
shown_node (node.File bytes) = File bytes
shown_node (node.Link target) = Link target

abbrev pub shown_at : World → Child → Option Shown
shown_at w (child.At p) = let b = base (facts_of w) p in option_map shown_node (node_at w b.store b.ino)
shown_at w child.Absent = None
shown_at w (child.Need x) = None

-- The tree that a directory shows: what stands at the end of some names, one below the other; no names stand for the
-- directory itself.
abbrev pub shown : World → Seen → List (List ℕ) → Option Shown
shown w d ns = shown_at w (shown_place (facts_of w) d ns)
