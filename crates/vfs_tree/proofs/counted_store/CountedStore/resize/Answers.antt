use Rattle.vfs_tree.proofs.StoreCountLaws.{counts_bytes_or}
use Rattle.vfs_tree.proofs.counted_store.CountedStore.resize.Goals as goal

pub invariant_of-self : goal.invariant_of-self
invariant_of-self c = counts_bytes_or c.resize.result c.self.inside.counts c.self.inside.store c.resize.new.store _ c.args.ino c.resize.ensures.resized c.resize.ensures.err c.self.invariant
