use Rattle.std.proofs.Common.{◌≡◌, ◌-◌, [], map, reverse}
use Rattle.vfs_tree.specs.Child.{steps}
use Rattle.vfs_paths.specs.Way.{way_within}
use Rattle.vfs_paths.proofs.child.way_up.Given as goal

-- the way from the directory that was reached, with the names below it
abbrev pub invariant-loop-passed : goal.invariant-loop-passed
invariant-loop-passed g l =
    way_within (steps - l._passed) (g.V.NameView.facts l.view) l.store l.upper l.at (reverse (map (λ n. n.now) l.names.items))
    ≡ way_within steps (g.V.NameView.facts l.view) l.store l.upper l.dir []
