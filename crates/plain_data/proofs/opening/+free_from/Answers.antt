use Rattle.std.proofs.Common.{◌≡◌, ◌-◌, suc, ap, sym, arith}
use Rattle.std.specs.Prelude.{is_some}
use Rattle.plain_data.proofs.OpenLaws.{passed}
use Rattle.plain_data.proofs.opening.+free_from.Goals as goal

pub returns-in-Some-clause-lowest : goal.returns-in-Some-clause-lowest
returns-in-Some-clause-lowest t c =
    let more : c.args.steps ≡ suc (c.args.steps - 1) = omega arith in
    passed _ _ c.args.world.now c.args.caller c.args.fd c.free_from.result more (sym (ap is_some c.in-Some.ensures)) c.free_from.ensures.lowest
