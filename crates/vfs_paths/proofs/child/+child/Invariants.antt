use Rattle.std.proofs.Common.{◌≡◌, ◌+◌, ◌*◌, map, reverse, vec_len}
use Rattle.vfs_tree.specs.Child.{child_within}
use Rattle.vfs_tree.specs.declared.walk.Child.TheVariants.{At}
use Rattle.vfs_paths.specs.Way.{down}
use Rattle.vfs_paths.proofs.child.+child.Given as goal

-- by the mounts that may still be passed
abbrev pub decreases-child_within : goal.decreases-child_within
decreases-child_within g l = 8 * l.mounts

abbrev pub decreases-child_below : goal.decreases-child_below
decreases-child_below g l = 8 * l.mounts + 1

abbrev pub decreases-down : goal.decreases-down
decreases-down g l = 8 * l.mounts + 2

abbrev pub decreases-low_within : goal.decreases-low_within
decreases-low_within g l = 8 * l.mounts + 3

abbrev pub decreases-child_union : goal.decreases-child_union
decreases-child_union g l = 8 * l.mounts + 4

-- the way that is left, from what was found
abbrev pub invariant-down-loop-name : goal.invariant-down-loop-name
invariant-down-loop-name g l =
    let f = g.V.NameView.facts l.view in
    down f (child_within l.mounts f) l.found (reverse (map (λ n. n.now) l.way.items))
    ≡ down f (child_within l.mounts f) (At l.lower) (reverse (map (λ n. n.now) l.fn.way.items))

abbrev pub decreases-down-loop-name : goal.decreases-down-loop-name
decreases-down-loop-name g l = vec_len l.way
