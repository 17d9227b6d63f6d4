use Rattle.std.proofs.Common.{ap, sym, ◌∙◌}
use Rattle.std.specs.Prelude.{Some}
use Rattle.vfs_tree.proofs.OwnNameLaws.{kept_is}
use Rattle.vfs_tree.proofs.counted_store.CountedStore.kept_name.Goals as goal

pub returns-then-gives : goal.returns-then-gives
returns-then-gives c = kept_is c.self.inside.counts c.self.inside.store c.args.self.now c.args.ino c.in-Some-Dir.parent _ _ c.in_ok-name.name.now c.in-Some.entry c.self.view_is c.self.invariant
    (c.is_one.ensures c.if-not-is_one.false) (sym c.in-Some-Dir.ensures ∙ ap Some c.in-Some-Dir.field-0-is) (sym c.entry_of.ensures ∙ c.in-Some.is) (sym c.gives.ensures ∙ c.if-gives.true)
