use Rattle.std.proofs.Common.{◌≡◌, ◌++◌, drop}
use Rattle.vfs_tree.specs.Name.{name_cmp}
use Rattle.union_fs.proofs.Shown.{visible}
use Rattle.union_fs.proofs.listing.merge.Given as goal

abbrev pub invariant-loop-name : goal.invariant-loop-name
invariant-loop-name l = visible name_cmp l.upper l.white l.lower ≡ l.names.items ++ visible name_cmp l.upper_left l.white_left (drop l.name-index l.lower)
