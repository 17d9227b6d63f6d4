use Rattle.std.proofs.Common.{sym, subst}
use Rattle.vfs_core.specs.Kernel.{Kernel}
use Rattle.vfs_cli.specs.Output.{HasRun}
use Rattle.vfs_cli.proofs.RunLaws.{has_run}
use Rattle.vfs_cli.proofs.running.run_calls.Goals as goal

pub returns : goal.returns
returns c =
    let run = has_run c.args.turns c.args.script c.in_ok-job.job c.run_job.new.job c.in_ok-job.ensures c.in_ok-run_job.ensures.runs c.in_ok-run_job.ensures.done c.in_ok-run_job.ensures.in_turn in
    subst (λ (k : Kernel). HasRun c.args.turns c.args.script k) (sym c.into_kern.ensures) run
