-- Directories by the nodes on which they rest.
use Rattle.std.specs.Prelude.{ℕ, zero, suc, Bool, true, false, not, ◌&&◌, ◌==◌, Option, Some, None}
use Rattle.std.specs.List.{list_any}
use Rattle.std.specs.FinMap.{values}
use Rattle.vfs_tree.specs.Place.{Seen, Mem, Null, UnionUp, UnionLow, bare}
use Rattle.vfs_tree.specs.Facts.{Facts}
use Rattle.vfs_tree.specs.Layers.{base, same_node, parent_ino}
use Rattle.vfs_tree.specs.Child.{steps}
use Rattle.vfs_tree.specs.Mounts.{is_left}
use Rattle.vfs_tree.specs.Views.{facts_of}
use Rattle.vfs_tree.specs.declared.mount.Mount.{Mount}
use Rattle.vfs_tree.specs.declared.walk.NodeId.{NodeId}
use Rattle.vfs_tree.specs.declared.world.World.{World}

-- whether a directory is one of a union
abbrev pub is_union_place : Seen → Bool
is_union_place (UnionUp m i) = true
is_union_place (Mem m i) = false
is_union_place (Null m p) = false
is_union_place (UnionLow m u n p) = false

abbrev pub is_in_union : Seen → Bool
is_in_union d = is_union_place (bare d)

-- ---- busy

abbrev pub is_on_node : Facts → NodeId → Option Seen → Bool
is_on_node f b (Some q) = same_node (base f q) b
is_on_node f b None = false

-- whether a directory is busy: a mount covers a place that rests on the same node
abbrev pub is_busy : World → Seen → Bool
is_busy w p =
    let f = facts_of w in list_any (λ t. is_on_node f (base f p) t.on && not (is_left w.leaving t.number)) (values w.mounts)

-- ---- below

abbrev pub below_case : (ℕ → Bool) → ℕ → Bool → Bool → Bool
below_case up above true ends = true
below_case up above false true = false
below_case up above false false = up above

abbrev pub below_within : ℕ → Facts → ℕ → ℕ → ℕ → Bool
below_within zero f s top i = false
below_within (suc k) f s top i = below_case (below_within k f s top) (parent_ino f s i) (i == top) (i == 1)

-- whether a directory rests on the same node as another, or on one below it
abbrev pub is_below : Facts → Seen → Seen → Bool
is_below f d top =
    let b = base f d in let t = base f top in (b.store == t.store) && below_within steps f b.store t.ino b.ino
