use Rattle.std.proofs.Common.{◌+◌, ◌*◌}
use Rattle.plain_views.proofs.listing.+shows.Given as goal

-- by the mounts that are left, a directory before its lower part
abbrev pub decreases-has_visible_within : goal.decreases-has_visible_within
decreases-has_visible_within l = 2 * l.steps

abbrev pub decreases-has_visible_union : goal.decreases-has_visible_union
decreases-has_visible_union l = 2 * l.steps + 1
