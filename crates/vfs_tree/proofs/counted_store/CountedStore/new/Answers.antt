use Rattle.vfs_tree.proofs.StoreCountLaws.{counts_first}
use Rattle.vfs_tree.proofs.counted_store.CountedStore.new.Goals as goal

pub invariant_of-result : goal.invariant_of-result
invariant_of-result c = counts_first _ _ c.new-2.ensures c.in_ok-store.ensures.empty
