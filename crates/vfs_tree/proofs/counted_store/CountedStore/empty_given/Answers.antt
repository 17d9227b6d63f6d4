use Rattle.vfs_tree.proofs.StoreCountLaws.{counts_emptied}
use Rattle.vfs_tree.proofs.counted_store.CountedStore.empty_given.Goals as goal

pub invariant_of-self : goal.invariant_of-self
invariant_of-self c = counts_emptied c.self.inside.counts c.forget_if.new.self c.self.inside.store c.empty_given-taken.new.store c.args.given c.empty_given-taken.result c.gives_some.result
    c.empty_given-taken.ensures.emptied c.empty_given-taken.ensures.back c.gives_some.ensures c.forget_if.ensures c.self.invariant
