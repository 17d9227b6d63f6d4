use Rattle.std.proofs.Common.{◌∙◌}
use Rattle.plain_data.proofs.OpenLaws.{given_back}
use Rattle.plain_data.proofs.opening.hold_cut.Goals as goal

pub returns-in-Err-clause-err : goal.returns-in-Err-clause-err
returns-in-Err-clause-err c =
    given_back c.args.world.now c.resize_node.new.world _ c.args.caller c.args.fd _ c.requires.free (c.in-Err.ensures.err ∙ c.in_ok-hold.ensures.ok) c.remove.ensures.removed
