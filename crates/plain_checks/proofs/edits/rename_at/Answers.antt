use Rattle.plain_checks.proofs.EditLaws.{stores_same, world_same, numbered_at, numbered_put, numbered_same}
use Rattle.plain_checks.proofs.edits.rename_at.Goals as goal

pub returns-in-Ok-clause-kept : goal.returns-in-Ok-clause-kept
returns-in-Ok-clause-kept c =
    let below = numbered_at c.args.world.now _ _ c.in-Some.ensures.value c.requires in
    numbered_put c.args.world.now _ _ _ _ c.in-Some.ensures.value (c.get_mut.follows.holds _) (c.rename.ensures.kept below) c.requires

pub returns-in-Err-clause-err : goal.returns-in-Err-clause-err
returns-in-Err-clause-err c = world_same c.args.world.now _ (stores_same _ _ _ _ _ c.in-Some.ensures.value (c.get_mut.follows.holds _) c.in-Err.ensures.err)

pub returns-in-Err-clause-kept : goal.returns-in-Err-clause-kept
returns-in-Err-clause-kept c = numbered_same c.args.world.now _ (world_same c.args.world.now _ (stores_same _ _ _ _ _ c.in-Some.ensures.value (c.get_mut.follows.holds _) c.in-Err.ensures.err)) c.requires
