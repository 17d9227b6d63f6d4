use Rattle.vfs_cli.specs.declared.words.Turns.TheVariants.{Together}
use Rattle.vfs_cli.specs.Outcome.{effects, reading, writing}
use Rattle.vfs_cli.proofs.EndLaws.{lacking_run, wrote_run}
use Rattle.vfs_cli.proofs.top.run_threads.Goals as goal

pub returns-in-Err : goal.returns-in-Err
returns-in-Err g c = c.in-Err.ensures Together

pub returns-in-Ok-run_together : goal.returns-in-Ok-run_together
returns-in-Ok-run_together g c =
    let read = c.in-Ok.ensures in
    wrote_run Together c.in-Ok.script _ (g.K.Sink.written c.take_script.new.sink) (g.K.Sink.faults c.take_script.new.sink) c.write_run.result read.0 read.1.written read.1.faults
    (c.write_run.ensures Together c.in-Ok.script c.in-Ok-run_together.ensures)

pub returns-in-Err-run_together : goal.returns-in-Err-run_together
returns-in-Err-run_together g c =
    let read = c.in-Ok.ensures in
    lacking_run Together c.in-Ok.script
    (effects (reading g.S.Source.left g.S.Source.faults c.args.source.now c.take_script.new.source) (writing g.K.Sink.written g.K.Sink.faults c.args.sink.now c.take_script.new.sink)) read.0 read.1
