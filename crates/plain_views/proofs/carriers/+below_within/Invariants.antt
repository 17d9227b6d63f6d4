use Rattle.plain_views.proofs.carriers.+below_within.Given as goal

abbrev pub decreases-below_within : goal.decreases-below_within
decreases-below_within l = l.steps
