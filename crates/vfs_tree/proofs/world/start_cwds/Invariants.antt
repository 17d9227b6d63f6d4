use Rattle.std.proofs.Common.{◌≡◌}
use Rattle.vfs_tree.specs.Start.{root_cwds}
use Rattle.vfs_tree.proofs.world.start_cwds.Given as goal

abbrev pub invariant-loop-before : goal.invariant-loop-before
invariant-loop-before l = l.cwds ≡ root_cwds l.before
