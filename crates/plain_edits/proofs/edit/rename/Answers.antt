use Rattle.vfs_tree.proofs.BelowLaws.{kept-renamed}
use Rattle.plain_edits.proofs.edit.rename.Goals as goal

pub returns-in-Ok-clause-kept : goal.returns-in-Ok-clause-kept
returns-in-Ok-clause-kept c = kept-renamed c.args.store.now _ _ _ _ _ _ _ _ _ _ c.empty_given-taken.ensures.emptied c.in-Ok.ensures.ok
