use Rattle.std.proofs.Common.{rules, ap, sym}
use Rattle.call_model.specs.Checks.{is_full_store}
use Rattle.plain_checks.proofs.EditLaws.{stores_same, world_same, numbered_at, numbered_put, numbered_same, made_there, made_full, not_made}
use Rattle.plain_checks.proofs.edits.make_at.Goals as goal

pub make_in-requires : goal.make_in-requires
make_in-requires c = numbered_at c.args.world.now _ _ c.in-Some.ensures.value c.requires

pub returns-in-Ok-clause-made : goal.returns-in-Ok-clause-made
returns-in-Ok-clause-made c = made_there c.args.world.now c.args.dir.now c.base-at.result _ _ _ _ _ c.base-at.ensures c.in-Some.ensures.value (c.get_mut.follows.holds _) c.in-Ok.ensures.room c.in-Ok.ensures.made

pub returns-in-Ok-clause-kept : goal.returns-in-Ok-clause-kept
returns-in-Ok-clause-kept c = numbered_put c.args.world.now _ _ _ _ c.in-Some.ensures.value (c.get_mut.follows.holds _) c.make_in.ensures.kept c.requires

pub returns-in-Err-clause-made : goal.returns-in-Err-clause-made
returns-in-Err-clause-made c =
    let same = world_same c.args.world.now _ (stores_same _ _ _ _ _ c.in-Some.ensures.value (c.get_mut.follows.holds _) c.in-Err.ensures.err) in
    (not_made c.args.world.now c.args.dir.now c.base-at.result _ _ _ _ c.base-at.ensures c.in-Some.ensures.value c.in-Err.ensures.why, same)

pub returns-in-Err-clause-kept : goal.returns-in-Err-clause-kept
returns-in-Err-clause-kept c = numbered_same c.args.world.now _ (world_same c.args.world.now _ (stores_same _ _ _ _ _ c.in-Some.ensures.value (c.get_mut.follows.holds _) c.in-Err.ensures.err)) c.requires

pub returns-in-None-clause-made : goal.returns-in-None-clause-made
returns-in-None-clause-made c = (made_full c.args.world.now c.args.dir.now c.base-at.result _ _ c.base-at.ensures (sym (ap is_full_store c.in-None.ensures.value)), search rules)
