use Rattle.std.proofs.Common.{◌∙◌, Some, length, refl, sym, ap, subst}
use Rattle.turn_lock.specs.Known.{part_in, is_in}
use Rattle.turn_lock.specs.Plays.{Settled}
use Rattle.turn_lock.specs.Turns.{parts_to}
use Rattle.turn_lock.proofs.Opens.{opens}
use Rattle.turn_lock.proofs.Parts.{part_to, only_to, length_to, its_part}
use Rattle.turn_lock.proofs.lock.TurnLock.new.Goals as goal

pub new-requires : goal.new-requires
new-requires g c = rw (c.push_reserved.ensures.items, c.reserve.ensures.items, c.new-slots.ensures.items, c.of.ensures) (opens g.K.Kept.list g.K.Kept.fixed g.K.Kept.part c.args.value c.args.numbers c.count-count.result c.requires c.count-count.ensures)

pub invariant_of-result-in-Ok : goal.invariant_of-result-in-Ok
invariant_of-result-in-Ok g c =
    let e = c.in-Ok.ensures.ok.4 in
    let v = c.of.result.value in
    subst (λ m. Settled c.count-count.result m) (sym e) (record {
      counted = c.count-count.ensures ∙ ap (λ x. length (g.K.Kept.list x)) (sym c.of.ensures);
      numbered = length_to (g.K.Kept.part v) c.args.numbers c.requires;
      rests = (refl, refl);
    })

pub returns-in-Ok-clause-parts : goal.returns-in-Ok-clause-parts
returns-in-Ok-clause-parts g c = λ n low high. ap (λ m. part_in n m.0.mine) c.in-Ok.ensures.ok.4
    ∙ (part_to (g.K.Kept.part c.of.result.value) c.args.numbers n low high ∙ ap (λ x. Some (g.K.Kept.part x n)) c.of.ensures)

pub returns-in-Ok-clause-numbers : goal.returns-in-Ok-clause-numbers
returns-in-Ok-clause-numbers g c = λ n h.
    let parts = parts_to (g.K.Kept.part c.of.result.value) c.args.numbers in
    let f = its_part n parts (ap (λ m. is_in n m.0.mine) (sym c.in-Ok.ensures.ok.4) ∙ h) in
    (let o = only_to (g.K.Kept.part c.of.result.value) c.args.numbers n f.0 f.1 in (o.1, o.2))
