use Rattle.vfs_tree.proofs.StoreLaws.{left_same, refilled_back}
use Rattle.vfs_tree.proofs.store_edits.empty_given.Goals as goal

pub returns-in-Some-take_names-clause-back : goal.returns-in-Some-take_names-clause-back
returns-in-Some-take_names-clause-back c = refilled_back c.args.store.now _ _ _ _ _ c.in-Some.ensures.value (c.get_mut.follows.holds _) c.in-Some-take_names.ensures.back

pub returns-in-None-take_names-clause-back : goal.returns-in-None-take_names-clause-back
returns-in-None-take_names-clause-back c = left_same c.args.store.now _ _ _ _ c.in-Some.ensures.value (c.get_mut.follows.holds _) c.in-None-take_names.ensures.back
