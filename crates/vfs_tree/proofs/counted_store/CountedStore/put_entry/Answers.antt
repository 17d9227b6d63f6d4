use Rattle.vfs_tree.proofs.StoreCountLaws.{counts_put}
use Rattle.vfs_tree.proofs.counted_store.CountedStore.put_entry.Goals as goal

pub invariant_of-self : goal.invariant_of-self
invariant_of-self c = counts_put c.self.inside.store c.put_entry.new.store c.self.inside.counts c.replace_if.new.self c.args.dir c.args.name c.in-Ok.before c.args.entry c.has_dir-there.result
    c.has_dir-there.ensures c.in-Ok.ensures.before c.in-Ok.ensures.ok c.replace_if.ensures c.self.invariant
