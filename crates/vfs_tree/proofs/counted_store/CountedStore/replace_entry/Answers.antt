use Rattle.vfs_tree.proofs.StoreCountLaws.{counts_replaced}
use Rattle.vfs_tree.proofs.counted_store.CountedStore.replace_entry.Goals as goal

pub invariant_of-self : goal.invariant_of-self
invariant_of-self c = counts_replaced c.self.inside.store c.replace_entry.new.store c.args.self.now c.self.inside.counts c.replace_if.new.self c.args.dir c.args.name.now c.entry_of-before.result c.args.entry
    c.self.view_is c.requires c.entry_of-before.ensures c.replace_entry.ensures c.replace_if.ensures c.self.invariant
