use Rattle.vfs_tree.proofs.BelowLaws.{kept_at, below-clear}
use Rattle.plain_edits.proofs.edit.clear_white.Goals as goal

pub returns-clause-kept : goal.returns-clause-kept
returns-clause-kept c = kept_at c.args.store.now _ _ c.clear.ensures (below-clear c.args.store.now c.args.dir c.args.name.now)
