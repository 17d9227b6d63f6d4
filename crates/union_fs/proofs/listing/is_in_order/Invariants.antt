use Rattle.std.proofs.Common.{ℕ, ◌≡◌, ◌<◌, ◌+◌, [], slice_index_or}
use Rattle.std.specs.declared.cmp.Ordering.TheVariants.{Less}
use Rattle.vfs_tree.specs.Name.{name_cmp}
use Rattle.union_fs.proofs.listing.is_in_order.Given as goal

abbrev pub invariant-loop-at : goal.invariant-loop-at
invariant-loop-at l = (k : ℕ) → k + 1 < l.at → name_cmp (slice_index_or l.names k []) (slice_index_or l.names (k + 1) []) ≡ Less
