use Rattle.std.proofs.Common.{◌≡◌, length}
use Rattle.vfs_tree.specs.Walk.{Jump, along}
use Rattle.vfs_paths.proofs.along.to_link.Given as goal

-- the walk from here is the walk from the start
abbrev pub invariant-loop-component : goal.invariant-loop-component
invariant-loop-component g l =
    (jump : Jump) → along (g.V.NameView.facts l.view) l.leaf jump l.rest l.dir ≡ along (g.V.NameView.facts l.view) l.leaf jump l.fn.rest l.fn.start

abbrev pub decreases-loop-component : goal.decreases-loop-component
decreases-loop-component g l = length l.rest
