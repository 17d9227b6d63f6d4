use Rattle.std.proofs.Common.{◌≡◌}
use Rattle.std.specs.FinMap.{entries}
use Rattle.vfs_tree.specs.Mounts.{cut_with}
use Rattle.plain_effects.proofs.EachLaws.{changed_to}
use Rattle.plain_effects.proofs.detach.cut_all.Given as goal

-- those before the index are cut
abbrev pub invariant-loop-at : goal.invariant-loop-at
invariant-loop-at l =
    (l.world ≡ record l.initial.world { mounts = l.world.mounts }) ×
    (entries l.world.mounts ≡ changed_to l.at (cut_with l.initial.world.mounts l.mount) (entries l.initial.world.mounts))
