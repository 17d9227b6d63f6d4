use Rattle.vfs_core.proofs.SeatLaws.{calls_still, ends_after, took_after}
use Rattle.vfs_core.proofs.turns.end_in_turns.Goals as goal

pub step_in_turn-requires-clause-live : goal.step_in_turn-requires-clause-live
step_in_turn-requires-clause-live g c = calls_still c.args.caller c.args.pass.now c.loop.pass c.loop.invariant.3 c.requires.live

pub returns-in-Ended-clause-took : goal.returns-in-Ended-clause-took
returns-in-Ended-clause-took g c = took_after c.args.lock.now.fixed c.args.caller c.args.pass.now c.loop.pass c.step_in_turn.new.pass c.loop.invariant.3 c.in-Ended.ensures.took

pub returns-in-Ended-clause-ended : goal.returns-in-Ended-clause-ended
returns-in-Ended-clause-ended g c = ends_after c.args.caller c.args.pass.now c.loop.pass c.step_in_turn.new.pass c.in-Ended.reply c.loop.invariant.3 c.in-Ended.ensures.stepped
