use Rattle.std.proofs.Common.{sym, arith, ◌<◌}
use Rattle.call_laws.specs.Live.{live}
use Rattle.vfs_core.proofs.AdvancingLaws.{dooms_more, falls_next}
use Rattle.vfs_core.proofs.ComingLaws.{first_falls}
use Rattle.vfs_core.proofs.revoking.doom_open.Goals as goal

pub enter_doom-requires-clause-room : goal.enter_doom-requires-clause-room
enter_doom-requires-clause-room c =
    let fewer = first_falls c.loop-at.world c.args.node c.in-Some.at (sym c.in-Some.ensures) in
    let room = c.loop-at.invariant.room in
    omega arith

pub loop-at-smaller : goal.loop-at-smaller
loop-at-smaller c = falls_next c.loop-at.world c.enter_doom.new.world c.args.node c.in-Some.at c.in-Some.ensures c.enter_doom.ensures.doomed

pub loop-at-preserved : goal.loop-at-preserved
loop-at-preserved c =
    let fewer : live c.enter_doom.new.world < live c.loop-at.world = falls_next c.loop-at.world c.enter_doom.new.world c.args.node c.in-Some.at c.in-Some.ensures c.enter_doom.ensures.doomed in
    let room = c.loop-at.invariant.room in
    let spare = c.enter_doom.ensures.spare in
    record {
      dooms = dooms_more c.args.node c.args.caller c.args.world.now c.loop-at.world c.enter_doom.new.world c.args.history.now c.loop-at.history c.enter_doom.new.history c.in-Some.at
          c.loop-at.invariant.dooms c.in-Some.ensures c.enter_doom.ensures.doomed c.enter_doom.ensures.entered spare;
      room = omega arith;
      numbered = c.enter_doom.ensures.kept;
    }
