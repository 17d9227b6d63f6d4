use Rattle.std.proofs.Common.{◌∙◌, ◌∷◌, ap}
use Rattle.atomic_table.specs.Table.{rest}
use Rattle.turn_lock.proofs.Calls.{taken, never, entered}
use Rattle.turn_lock.proofs.steps.take.Goals as goal

pub exchange-requires : goal.exchange-requires
exchange-requires g c = (c.wait_turn.ensures.own ∙ (c.draw-ticket.ensures.own ∙ c.requires.own.0), taken g.K.Kept.list g.K.Kept.fixed g.K.Kept.part c.draw-ticket.new.seat.me c.wait_turn.new.seat.me c.wait_turn.ensures.took)

pub unreachable-requires : goal.unreachable-requires
unreachable-requires g c = absurd (never g.K.Kept.list g.K.Kept.fixed g.K.Kept.part c.draw-ticket.new.seat.me c.wait_turn.new.seat.me c.wait_turn.ensures.took (c.exchange.ensures.2 ∙ ap (λ x. (0, x) ∷ rest c.wait_turn.new.seat.me.1) c.in-None.is))

pub returns-clause-entered : goal.returns-clause-entered
returns-clause-entered g c = entered g.K.Kept.list g.K.Kept.fixed g.K.Kept.part c.args.seat.now.me c.draw-ticket.new.seat.me c.wait_turn.new.seat.me c.exchange.new.seat.me c.draw-ticket.result c.in-Some.value c.requires.idle c.draw-ticket.ensures.ticket c.wait_turn.ensures.took
    (c.exchange.ensures.2 ∙ ap (λ x. (0, x) ∷ rest c.wait_turn.new.seat.me.1) c.in-Some.is) c.exchange.ensures.3
