use Rattle.std.proofs.Common.{◌≡◌, drop}
use Rattle.std.specs.List.{fold}
use Rattle.vfs_tree.specs.Visible.{with_lower_name}
use Rattle.plain_views.proofs.shown.merged.Given as goal

-- the names that are left make the same of those so far
abbrev pub invariant-loop-name : goal.invariant-loop-name
invariant-loop-name l = fold (with_lower_name l.upper) l.names (drop l.name-index l.others) ≡ fold (with_lower_name l.upper) l.upper l.lower
