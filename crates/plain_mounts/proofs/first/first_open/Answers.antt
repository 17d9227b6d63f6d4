use Rattle.std.proofs.Common.{◌∙◌}
use Rattle.plain_mounts.specs.declared.first.Sought.TheVariants.{OnNode}
use Rattle.plain_mounts.proofs.FirstLaws.{found}
use Rattle.plain_mounts.proofs.first.first_open.Goals as goal

pub returns : goal.returns
returns c = c.at_of.ensures ∙ found c.args.world.now (OnNode c.args.node) _ c.best_open.ensures
