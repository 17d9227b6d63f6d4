use Rattle.std.proofs.Common.{◌∙◌, ap, arith}
use Rattle.turn_lock.proofs.Passing.{looks}
use Rattle.turn_lock.proofs.steps.wait_turn.Goals as goal

pub load-requires : goal.load-requires
load-requires g c =
    let i = c.loop.invariant in (
      i.1 ∙ c.requires.own.0,
      (let z = c.requires.own.1 in omega (arith, z)),
      looks g.K.Kept.list g.K.Kept.fixed g.K.Kept.part (g.K.Kept.fixed c.args.words.now.key.of.value) c.args.words.now.key.numbers _ _ _ _ c.args.ticket (ap (λ m. m.0.ticket) i.3 ∙ c.requires.ticket.0) (ap (λ m. m.0.out) i.3 ∙ c.requires.ticket.1),
    )
