use Rattle.std.proofs.Common.{sym, subst}
use Rattle.vfs_core.specs.Kernel.{Kernel}
use Rattle.vfs_cli.specs.Output.{HasRun}
use Rattle.vfs_cli.specs.declared.words.Turns.TheVariants.{Together}
use Rattle.vfs_cli.proofs.RunLaws.{has_run_rest}
use Rattle.vfs_cli.proofs.together.run_together.Goals as goal

pub returns : goal.returns
returns g c =
    let run = has_run_rest c.args.script c.in_ok-job.job c.run_job.new.job c.in_ok-job.ensures c.in_ok-run_job.ensures.runs c.in_ok-run_job.ensures.done in
    subst (λ (k : Kernel). HasRun Together c.args.script k) (sym c.into_kern.ensures) run
