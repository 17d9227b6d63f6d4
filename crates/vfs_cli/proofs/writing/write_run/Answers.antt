use Rattle.std.proofs.Common.{refl}
use Rattle.vfs_cli.specs.Outcome.{writing}
use Rattle.vfs_cli.specs.declared.serial.Ending.TheVariants.{Done, NoMemory, WriteFault}
use Rattle.vfs_cli.proofs.RunLaws.{wrote_none, wrote_output}
use Rattle.vfs_cli.proofs.writing.write_run.Goals as goal

pub returns-in-Err : goal.returns-in-Err
returns-in-Err g c = λ turns script run. wrote_none turns script c.args.kern.now (g.K.Sink.written c.args.sink.now) (g.K.Sink.faults c.args.sink.now) c.history-history.ensures.legal run

pub returns-in-Done : goal.returns-in-Done
returns-in-Done g c = λ turns script run.
    wrote_output turns script c.args.kern.now (writing g.K.Sink.written g.K.Sink.faults c.args.sink.now c.write_output.new.sink) Done c.history-history.result.now.entries c.in-Ok.world
    c.history-history.ensures.legal c.history-history.ensures.history c.in-Ok.ensures c.in-Done.ensures.bytes run

pub returns-in-Failed : goal.returns-in-Failed
returns-in-Failed g c = λ turns script run.
    wrote_output turns script c.args.kern.now (writing g.K.Sink.written g.K.Sink.faults c.args.sink.now c.write_output.new.sink) WriteFault c.history-history.result.now.entries c.in-Ok.world
    c.history-history.ensures.legal c.history-history.ensures.history c.in-Ok.ensures (c.in-Failed.ensures.bytes, c.in-Failed.ensures.cause refl) run

pub returns : goal.returns
returns g c = λ turns script run.
    wrote_output turns script c.args.kern.now (writing g.K.Sink.written g.K.Sink.faults c.args.sink.now c.write_output.new.sink) NoMemory c.history-history.result.now.entries c.in-Ok.world
    c.history-history.ensures.legal c.history-history.ensures.history c.in-Ok.ensures c.in-NoMemory.ensures.bytes run
