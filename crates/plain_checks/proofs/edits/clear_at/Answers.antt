use Rattle.plain_checks.proofs.EditLaws.{numbered_at, numbered_put}
use Rattle.plain_checks.proofs.edits.clear_at.Goals as goal

pub returns-in-Some-clause-kept : goal.returns-in-Some-clause-kept
returns-in-Some-clause-kept c =
    let below = numbered_at c.args.world.now _ _ c.in-Some.ensures.value c.requires in
    numbered_put c.args.world.now _ _ _ _ c.in-Some.ensures.value (c.get_mut.follows.holds _) (c.clear_white.ensures.kept below) c.requires
