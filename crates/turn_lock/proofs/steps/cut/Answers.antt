use Rattle.std.proofs.Common.{◌≡◌, ◌∙◌, true, arith, subst, sym}
use Rattle.turn_lock.specs.Known.{is_in}
use Rattle.turn_lock.proofs.Sharing.{forks}
use Rattle.turn_lock.proofs.steps.cut.Goals as goal

pub split_seat-requires : goal.split_seat-requires
split_seat-requires g c =
    let a = c.requires.another in (
      c.requires.own.0,
      (let z = c.requires.own.1 in omega (arith, z)),
      forks g.K.Kept.list g.K.Kept.fixed g.K.Kept.part (g.K.Kept.fixed c.args.words.now.key.of.value) c.args.words.now.key.numbers c.args.seat.now.id c.args.seat.now.me.0 g.J.Number.number c.requires.idle.0 c.requires.idle.1
          (subst (λ n. is_in n c.args.seat.now.me.0.mine ≡ true) c.requires.number c.requires.has) a.0 (λ e. a.1 (e ∙ sym c.requires.number)) a.2,
    )
