use Rattle.vfs_cli.proofs.RunLaws.{sums_run}
use Rattle.vfs_cli.proofs.running.summary_of.Goals as goal

pub returns-in-Ok : goal.returns-in-Ok
returns-in-Ok c = λ turns script run.
    sums_run turns script c.args.kern.now c.history-history.result.now.entries c.in-Ok.world c.summary.result c.history-history.ensures.legal c.history-history.ensures.history c.in-Ok.ensures c.summary.ensures run
