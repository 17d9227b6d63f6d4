use Rattle.std.proofs.Common.{ap}
use Rattle.vfs_core.specs.Kernel.{Kernel}
use Rattle.vfs_cli.proofs.RunLaws.{fits_script}
use Rattle.vfs_cli.proofs.running.job_of.Goals as goal

pub new-requires-2-clause-fits : goal.new-requires-2-clause-fits
new-requires-2-clause-fits c = fits_script c.args.script _ _ c.requires (ap (λ (k : Kernel). k.limits) c.in_ok-kern.ensures) c.into_vec.ensures
