use Rattle.vfs_tree.proofs.StoreLaws.{left_same}
use Rattle.vfs_tree.proofs.store_edits.put_entry.Goals as goal

pub returns-in-Err-clause-err : goal.returns-in-Err-clause-err
returns-in-Err-clause-err c = left_same c.args.store.now _ _ _ _ c.in-Some.ensures.value (c.get_mut.follows.holds _) c.in-Err.ensures.err
