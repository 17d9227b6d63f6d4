use Rattle.std.proofs.Common.{ap, ◌∙◌}
use Rattle.call_laws.specs.Revoking.{first_open_on}
use Rattle.plain_mounts.proofs.revoking.first_of.Goals as goal

pub returns : goal.returns
returns c = c.first_open.ensures ∙ ap (first_open_on c.args.world.now) c.base.ensures
