use Rattle.plain_effects.proofs.DoomLaws.{opens_back, doomed_by}
use Rattle.plain_effects.proofs.dooms.doom_as_open.Goals as goal

pub returns-in-Some : goal.returns-in-Some
returns-in-Some c =
    doomed_by c.args.world.now c.in-Some.place _ _ _ c.in-Some.ensures.place
    (opens_back c.args.world.now.opens _ _ _ c.args.key _ c.in-Some.ensures.place c.in-Some.ensures.left c.doom_opens.ensures c.give_place.ensures) c.doom_cwds.ensures
