use Rattle.vfs_paths.proofs.under.+depth_within.Given as goal

abbrev pub decreases-depth_within : goal.decreases-depth_within
decreases-depth_within g l = l.mounts
