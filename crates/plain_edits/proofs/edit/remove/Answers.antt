use Rattle.vfs_tree.proofs.BelowLaws.{kept-removed}
use Rattle.plain_edits.proofs.edit.remove.Goals as goal

pub returns-in-Ok-clause-kept : goal.returns-in-Ok-clause-kept
returns-in-Ok-clause-kept c = kept-removed c.args.store.now _ _ _ _ _ _ c.empty_given-taken.ensures.emptied c.in-Ok.ensures.ok
