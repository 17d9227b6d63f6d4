use Rattle.vfs_paths.proofs.crossing.+leave_within.Given as goal

abbrev pub decreases-leave_within : goal.decreases-leave_within
decreases-leave_within g l = l.steps
