use Rattle.std.proofs.Common.{◌∙◌}
use Rattle.plain_mounts.specs.declared.first.Sought.TheVariants.{InMount}
use Rattle.plain_mounts.proofs.FirstLaws.{found_both}
use Rattle.plain_mounts.proofs.first.first_in.Goals as goal

pub returns : goal.returns
returns c = c.at_of.ensures ∙ found_both c.args.world.now (InMount c.args.mount) _ _ c.best_open-opens.ensures c.best_cwd.ensures
