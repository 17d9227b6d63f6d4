use Rattle.vfs_tree.proofs.BelowLaws.{kept_at, below-set}
use Rattle.plain_edits.proofs.edit.link.Goals as goal

pub returns-in-Ok-clause-kept : goal.returns-in-Ok-clause-kept
returns-in-Ok-clause-kept c = kept_at c.args.store.now _ _ c.in-Ok.ensures.ok (below-set c.args.store.now c.args.dir c.args.name _)
