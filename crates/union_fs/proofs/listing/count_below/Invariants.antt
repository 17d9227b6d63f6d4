use Rattle.std.proofs.Common.{◌≡◌, ◌++◌, take, drop}
use Rattle.vfs_tree.specs.Name.{name_cmp}
use Rattle.union_fs.specs.Names.{front_below, rest_from}
use Rattle.union_fs.proofs.listing.count_below.Given as goal

abbrev pub invariant-loop-at : goal.invariant-loop-at
invariant-loop-at l = record {
  front : front_below name_cmp l.name l.names ≡ take l.at l.names ++ front_below name_cmp l.name (drop l.at l.names);
  rest : rest_from name_cmp l.name l.names ≡ rest_from name_cmp l.name (drop l.at l.names);
}
