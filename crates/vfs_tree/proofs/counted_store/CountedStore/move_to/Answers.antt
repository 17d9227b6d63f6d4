use Rattle.vfs_tree.proofs.StoreCountLaws.{counts_moved}
use Rattle.vfs_tree.proofs.counted_store.CountedStore.move_to.Goals as goal

pub invariant_of-self : goal.invariant_of-self
invariant_of-self c = counts_moved c.self.inside.counts c.self.inside.store c.move_to.new.store c.args.ino c.args.to c.args.hides c.move_to.ensures c.self.invariant
