use Rattle.std.proofs.Common.{◌∙◌, ap}
use Rattle.std.specs.Option.{option_or}
use Rattle.turn_lock.specs.Known.{part_in, known_part}
use Rattle.turn_lock.proofs.Parts.{part_both}
use Rattle.turn_lock.proofs.lock.TurnLock.join.Goals as goal

pub returns-clause-parts : goal.returns-clause-parts
returns-clause-parts g c = λ n. ap (λ m. part_in n m) c.glue.ensures.joined.mine
    ∙ (part_both n c.pass.inside.seat.me.0.mine c.into_seat-seat.result.0.me.0.mine
    ∙ (ap (λ p. option_or (known_part n p) (part_in n c.into_seat-seat.result.0.me.0.mine)) c.pass.view_is ∙ ap (λ p. option_or (known_part n c.args.pass.now) (known_part n p)) c.into_seat-seat.ensures.shown))
