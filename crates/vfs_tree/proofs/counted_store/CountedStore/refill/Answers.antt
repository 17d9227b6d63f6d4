use Rattle.vfs_tree.proofs.StoreCountLaws.{counts_refilled}
use Rattle.vfs_tree.proofs.counted_store.CountedStore.refill.Goals as goal

pub invariant_of-self : goal.invariant_of-self
invariant_of-self c = counts_refilled c.self.inside.counts c.forget_if.new.self c.self.inside.store c.refill.new.store c.args.taken c.gives_some_with.result
    c.refill.ensures c.gives_some_with.ensures c.forget_if.ensures c.self.invariant
