use Rattle.std.proofs.Common.{sym, ◌∙◌}
use Rattle.vfs_tree.proofs.StoreCountLaws.{named_known, is_above_zero}
use Rattle.vfs_tree.proofs.counted_store.CountedStore.is_named.Goals as goal

pub returns-in-Some : goal.returns-in-Some
returns-in-Some c = is_above_zero c.in-Some.count ∙ sym (named_known c.self.inside.counts c.self.inside.store c.args.self.now c.args.ino c.in-Some.count c.self.view_is c.self.invariant (sym c.of.ensures ∙ c.in-Some.is))
