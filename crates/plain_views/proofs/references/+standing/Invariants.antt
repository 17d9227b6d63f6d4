use Rattle.std.proofs.Common.{◌+◌, ◌*◌}
use Rattle.plain_views.proofs.references.+standing.Given as goal

-- by the steps that are left, a mount before its layers
abbrev pub decreases-stands_within : goal.decreases-stands_within
decreases-stands_within l = 2 * l.steps

abbrev pub decreases-lies_within : goal.decreases-lies_within
decreases-lies_within l = 2 * l.steps + 1
