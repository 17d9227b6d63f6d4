use Rattle.std.proofs.Common.{◌∙◌, None, cond, nat_eq, refl, sym, ap, subst}
use Rattle.turn_lock.specs.Known.{part_in, known_part, has_number}
use Rattle.turn_lock.specs.Plays.{Settled, Rests, without_number, only_number}
use Rattle.turn_lock.proofs.Calls.{at_rest}
use Rattle.turn_lock.proofs.Parts.{some_number, part_without, part_only}
use Rattle.turn_lock.proofs.Sharing.{still_without, still_only}
use Rattle.turn_lock.proofs.lock.TurnLock.split.Goals as goal

pub invariant_of-pass : goal.invariant_of-pass
invariant_of-pass g c =
    let a = c.requires.another in
    let mine = c.pass.inside.seat.me.0.mine in
    subst (λ m. Settled c.pass.inside.count m) (sym c.cut-seat.ensures.views.0) (record {
      counted = c.pass.invariant.counted;
      numbered = some_number a.0 (without_number c.args.number mine) (still_without c.args.number a.0 mine a.1 (ap (λ p. has_number a.0 p) c.pass.view_is ∙ a.2));
      rests = subst (λ l. Rests c.pass.inside.seat.me.0.out c.pass.inside.seat.me.0.ticket l) (at_rest c.pass.inside.seat.me.0.out c.pass.inside.seat.me.0.ticket c.pass.inside.seat.me.1 c.pass.invariant.rests (ap (λ p. p.held) c.pass.view_is ∙ c.requires.idle)).1 c.pass.invariant.rests;
    })

pub invariant_of-result : goal.invariant_of-result
invariant_of-result g c =
    let mine = c.pass.inside.seat.me.0.mine in
    subst (λ m. Settled c.pass.inside.count m) (sym c.cut-seat.ensures.views.1) (record {
      counted = c.pass.invariant.counted;
      numbered = some_number c.args.number (only_number c.args.number mine) (still_only c.args.number mine (ap (λ p. has_number c.args.number p) c.pass.view_is ∙ c.requires.has));
      rests = (refl, refl);
    })

pub returns-clause-kept : goal.returns-clause-kept
returns-clause-kept g c = λ n. ap (λ m. part_in n m.0.mine) c.cut-seat.ensures.views.0
    ∙ (part_without c.args.number n c.pass.inside.seat.me.0.mine ∙ ap (λ p. cond (nat_eq n c.args.number) None (known_part n p)) c.pass.view_is)

pub returns-clause-given : goal.returns-clause-given
returns-clause-given g c = λ n. ap (λ m. part_in n m.0.mine) c.cut-seat.ensures.views.1
    ∙ (part_only c.args.number n c.pass.inside.seat.me.0.mine ∙ ap (λ p. cond (nat_eq n c.args.number) (known_part n p) None) c.pass.view_is)
