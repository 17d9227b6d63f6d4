use Rattle.std.proofs.Common.{subst, sym}
use Rattle.vfs_tree.specs.Nodes.{AreBelow}
use Rattle.vfs_tree.specs.declared.node.Store.{Store}
use Rattle.vfs_tree.proofs.StoreCountLaws.{counts_made}
use Rattle.vfs_tree.proofs.counted_store.CountedStore.make.Goals as goal

pub invariant_of-self : goal.invariant_of-self
invariant_of-self c = counts_made c.self.inside.store c.make.new.store c.self.inside.counts c.make-in-Ok.new.self c.args.dir c.args.name c.args.node c.entry_of-before.result c.in-Ok.ino c.is_plain-plain.result
    (subst (λ (t : Store). AreBelow t.nodes t.next) (sym c.self.view_is) c.requires.below) c.is_plain-plain.ensures c.entry_of-before.ensures c.in-Ok.ensures.made c.in-Ok.ensures.number c.make-in-Ok.ensures c.self.invariant
