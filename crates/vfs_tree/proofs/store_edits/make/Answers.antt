use Rattle.std.proofs.Common.{subst, sym}
use Rattle.vfs_tree.proofs.BelowLaws.{IsBelow, kept-made, unmade}
use Rattle.vfs_tree.proofs.store_edits.make.Goals as goal

pub returns-in-Ok-clause-kept : goal.returns-in-Ok-clause-kept
returns-in-Ok-clause-kept c = kept-made c.args.store.now _ _ _ _ _ c.in_ok-insert.ensures.ok c.in-Ok.ensures.ok c.requires.below

pub returns-in-Err-clause-err : goal.returns-in-Err-clause-err
returns-in-Err-clause-err c = unmade c.args.store.now _ _ _ _ c.in_ok-insert.ensures.ok c.in-Err.ensures.err c.remove.ensures.removed c.requires.below

pub returns-in-Err-clause-kept : goal.returns-in-Err-clause-kept
returns-in-Err-clause-kept c = subst IsBelow (sym (unmade c.args.store.now _ _ _ _ c.in_ok-insert.ensures.ok c.in-Err.ensures.err c.remove.ensures.removed c.requires.below)) c.requires.below
