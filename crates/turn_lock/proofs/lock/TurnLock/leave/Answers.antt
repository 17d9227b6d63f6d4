use Rattle.std.proofs.Common.{◌∙◌, Some, sym, ap}
use Rattle.turn_lock.specs.Known.{part_in, is_in, has_number}
use Rattle.turn_lock.proofs.Parts.{its_part, still_in, new_part}
use Rattle.turn_lock.proofs.lock.TurnLock.leave.Goals as goal

pub returns-clause-numbers : goal.returns-clause-numbers
returns-clause-numbers g c = λ n. ap (λ m. is_in n m) c.give.ensures.left.mine ∙ (still_in (g.K.Kept.part c.args.value) n c.pass.inside.seat.me.0.mine ∙ ap (λ p. has_number n p) c.pass.view_is)

pub returns-clause-parts : goal.returns-clause-parts
returns-clause-parts g c = λ n h.
    let mine = c.give.ensures.left.mine in
    let f = its_part n c.give.new.seat.me.0.mine h in
    let e = new_part (g.K.Kept.part c.args.value) n c.pass.inside.seat.me.0.mine f.0 (sym (ap (λ m. part_in n m) mine) ∙ f.1) in
    f.1 ∙ ap Some e.1
