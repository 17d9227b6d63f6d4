use Rattle.std.proofs.Common.{◌∙◌, ap, arith, length}
use Rattle.turn_lock.proofs.Passing.{draws}
use Rattle.turn_lock.proofs.steps.draw.Goals as goal

pub compare_exchange-found-requires : goal.compare_exchange-found-requires
compare_exchange-found-requires g c =
    let i = c.loop.invariant in (
      i.1 ∙ c.requires.own.0,
      (let z = c.requires.own.1 in omega (arith, z)),
      draws g.K.Kept.list g.K.Kept.fixed g.K.Kept.part (g.K.Kept.fixed c.args.words.now.key.of.value) c.args.words.now.key.numbers _ _ _ _ _ (ap (λ m. m.0.ticket) i.3 ∙ c.requires.idle.0) (ap (λ m. m.0.out) i.3 ∙ c.requires.idle.1) (let m = c.requires.idle.2 in omega (arith, ap (λ m. length m.0.mine) i.3)) (let t = c.if-next-lt18446744073709551615.true in omega arith),
    )
