use Rattle.vfs_tree.proofs.StoreLaws.{left_same}
use Rattle.vfs_tree.proofs.BelowLaws.{lent_below}
use Rattle.vfs_tree.proofs.store_edits.write.Goals as goal

pub returns-in-Ok-clause-kept : goal.returns-in-Ok-clause-kept
returns-in-Ok-clause-kept c = lent_below c.args.store.now _ _ _ _ c.in-Some.ensures.value (c.get_mut.follows.holds _)

pub returns-in-Err-clause-err : goal.returns-in-Err-clause-err
returns-in-Err-clause-err c = left_same c.args.store.now _ _ _ _ c.in-Some.ensures.value (c.get_mut.follows.holds _) c.in-Err.ensures.err

pub returns-in-Err-clause-kept : goal.returns-in-Err-clause-kept
returns-in-Err-clause-kept c = lent_below c.args.store.now _ _ _ _ c.in-Some.ensures.value (c.get_mut.follows.holds _)
