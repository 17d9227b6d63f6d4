use Rattle.vfs_tree.proofs.StoreCountLaws.{counts_cleared}
use Rattle.vfs_tree.proofs.counted_store.CountedStore.clear.Goals as goal

pub invariant_of-self : goal.invariant_of-self
invariant_of-self c = counts_cleared c.self.inside.store c.clear.new.store c.self.inside.counts c.lower_for.new.self c.args.dir c.args.name.now c.entry_of-before.result
    c.entry_of-before.ensures c.clear.ensures c.lower_for.ensures c.self.invariant
