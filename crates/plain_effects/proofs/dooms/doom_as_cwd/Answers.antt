use Rattle.plain_effects.proofs.DoomLaws.{cwds_back, doomed_by}
use Rattle.plain_effects.proofs.dooms.doom_as_cwd.Goals as goal

pub returns-in-Some : goal.returns-in-Some
returns-in-Some c =
    doomed_by c.args.world.now c.in-Some.place _ _ _ c.in-Some.ensures.place c.doom_opens.ensures
    (cwds_back c.args.world.now.cwds _ _ _ c.args.caller _ c.in-Some.ensures.place c.in-Some.ensures.left c.doom_cwds.ensures c.give_cwd.ensures)
