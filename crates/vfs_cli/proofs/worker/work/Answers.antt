use Rattle.vfs_cli.proofs.WorkerLaws.{worked_one}
use Rattle.vfs_cli.proofs.worker.work.Goals as goal

pub loop-call-preserved : goal.loop-call-preserved
loop-call-preserved g c =
    let a = c.make_next.ensures.answered c.if-not-make_next.false in
    worked_one c.args.vfs.now c.args.worker.now c.loop-call.worker (record { seat = c.make_next.new.seat; left = c.make_next.new.self }) a.0 a.1 c.loop-call.invariant a.2 c.make_next.ensures.own c.make_next.ensures.caller a.3
