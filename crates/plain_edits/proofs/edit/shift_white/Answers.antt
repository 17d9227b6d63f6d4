use Rattle.vfs_tree.proofs.StoreLaws.{put_back, put_there}
use Rattle.plain_edits.proofs.edit.shift_white.Goals as goal

pub restore-requires : goal.restore-requires
restore-requires c = put_there c.args.store.now _ _ _ _ _ _ _ c.in_ok-before.ensures.before c.in_ok-before.ensures.ok c.in-Err.ensures.err c.in_ok-old.ensures

pub returns-clause-err : goal.returns-clause-err
returns-clause-err c = put_back c.args.store.now _ _ _ _ _ _ _ _ c.in_ok-before.ensures.before c.in_ok-before.ensures.ok c.in-Err.ensures.err c.in_ok-old.ensures c.restore.ensures
