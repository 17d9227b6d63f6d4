use Rattle.vfs_paths.proofs.under.+has_within.Given as goal

abbrev pub decreases-has_within : goal.decreases-has_within
decreases-has_within g l = l.mounts
