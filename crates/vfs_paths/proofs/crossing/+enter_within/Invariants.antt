use Rattle.vfs_paths.proofs.crossing.+enter_within.Given as goal

abbrev pub decreases-enter_within : goal.decreases-enter_within
decreases-enter_within g l = l.steps
