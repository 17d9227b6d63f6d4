use Rattle.std.proofs.Common.{◌+◌, ◌*◌}
use Rattle.vfs_paths.proofs.along.+links.Given as goal

-- by the links that may still be followed
abbrev pub decreases-along : goal.decreases-along
decreases-along g l = 4 * l.links

abbrev pub decreases-go_on : goal.decreases-go_on
decreases-go_on g l = 4 * l.links + 1

abbrev pub decreases-jump : goal.decreases-jump
decreases-jump g l = 4 * l.links + 3

abbrev pub decreases-jump_along : goal.decreases-jump_along
decreases-jump_along g l = 4 * l.links + 2
