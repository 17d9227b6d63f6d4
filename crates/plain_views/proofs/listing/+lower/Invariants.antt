use Rattle.std.proofs.Common.{◌+◌, ◌*◌}
use Rattle.plain_views.proofs.listing.+lower.Given as goal

-- by the mounts that are left, a directory before its lower part
abbrev pub decreases-visible_within : goal.decreases-visible_within
decreases-visible_within l = 3 * l.steps

abbrev pub decreases-listed_below : goal.decreases-listed_below
decreases-listed_below l = 3 * l.steps + 1

abbrev pub decreases-visible_union : goal.decreases-visible_union
decreases-visible_union l = 3 * l.steps + 2
