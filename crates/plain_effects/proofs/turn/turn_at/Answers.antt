use Rattle.finite_maps.proofs.EntryLaws.{pair_total}
use Rattle.plain_effects.proofs.EachLaws.{lent_at, not_at, past}
use Rattle.plain_effects.proofs.turn.turn_at.Goals as goal

pub returns-in-Some-get_mut : goal.returns-in-Some-get_mut
returns-in-Some-get_mut c = lent_at pair_total c.args.opens.now _ _ _ _ _ _ c.in-Some.ensures c.in-Some-get_mut.ensures.value (c.get_mut.follows.holds _) c.turn_open.ensures

pub returns-in-None-get_mut : goal.returns-in-None-get_mut
returns-in-None-get_mut c = not_at pair_total c.args.opens.now _ _ _ _ c.in-Some.ensures c.in-None-get_mut.ensures.value

pub returns-in-None : goal.returns-in-None
returns-in-None c = past pair_total c.args.opens.now _ _ c.in-None.ensures
