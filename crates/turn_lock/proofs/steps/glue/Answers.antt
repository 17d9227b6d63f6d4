use Rattle.std.proofs.Common.{◌∙◌, ap, length, length-append, arith}
use Rattle.turn_lock.proofs.Sharing.{merges, agrees, joined}
use Rattle.turn_lock.proofs.steps.glue.Goals as goal

pub join_seat-requires : goal.join_seat-requires
join_seat-requires g c =
    let i = c.requires.idle in (
      c.requires.own.0,
      c.requires.own.1,
      i.1.2,
      (let z = c.requires.own.2 in omega (arith, z)),
      merges g.K.Kept.list g.K.Kept.fixed g.K.Kept.part (g.K.Kept.fixed c.args.words.now.key.of.value) c.args.words.now.key.numbers c.args.seat.now.id c.args.seat.now.me.0 c.args.other.id c.args.other.me.0 i.0.0 i.0.1 i.0.3 i.1.0 i.1.1,
    )

pub load-requires : goal.load-requires
load-requires g c =
    let i = c.requires.idle in
    let e = c.join_seat.ensures in (
      e.0 ∙ c.requires.own.0,
      (let z = c.requires.own.2 in omega (arith, z)),
      agrees g.K.Kept.list g.K.Kept.fixed g.K.Kept.part (g.K.Kept.fixed c.args.words.now.key.of.value) c.args.words.now.key.numbers c.join_seat.new.seat.id c.args.words.now.table_id.slots c.join_seat.new.seat.me.0 c.join_seat.new.seat.me.1
          (ap (λ s. s.0.ticket) e.2 ∙ i.0.0) (ap (λ s. s.0.out) e.2 ∙ i.0.1)
          (let m = i.0.3 in omega (arith, ap (λ s. length s.0.mine) e.2, length-append c.args.seat.now.me.0.mine c.args.other.me.0.mine)),
    )

pub returns-clause-joined : goal.returns-clause-joined
returns-clause-joined g c = joined c.args.seat.now.me c.args.other.me c.join_seat.new.seat.me c.load.new.seat.me c.requires.idle.0 c.join_seat.ensures.2 c.load.ensures.2
