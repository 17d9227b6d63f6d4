use Rattle.vfs_tree.proofs.StoreCountLaws.{counts_bytes_or}
use Rattle.vfs_tree.proofs.counted_store.CountedStore.write.Goals as goal

pub invariant_of-self : goal.invariant_of-self
invariant_of-self c = counts_bytes_or c.write.result c.self.inside.counts c.self.inside.store c.write.new.store _ c.args.ino c.write.ensures.written c.write.ensures.err c.self.invariant
