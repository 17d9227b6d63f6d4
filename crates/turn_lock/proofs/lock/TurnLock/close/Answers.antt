use Rattle.std.proofs.Common.{◌∙◌, ◌≤◌, ap, subst}
use mathlib.Core.Option.{some}
use Rattle.turn_lock.specs.Known.{StartsWith, known_part, has_number}
use Rattle.turn_lock.proofs.Sharing.{ends, never_empty}
use Rattle.turn_lock.proofs.lock.TurnLock.close.Goals as goal

pub unreachable-requires : goal.unreachable-requires
unreachable-requires g c = never_empty g.K.Kept.list g.K.Kept.fixed g.K.Kept.part (g.K.Kept.fixed c.self.inside.table.shared.key.of.value) c.self.inside.table.shared.key.numbers c.into_seat-seat.result.0.id c.into_seat-seat.result.0.me.0 _ _ (ap (λ p. p.held) c.into_seat-seat.ensures.shown ∙ c.requires.idle) (λ n low high. ap (λ p. has_number n p) c.into_seat-seat.ensures.shown ∙ c.requires.all n low (subst (λ k. n ≤ k) (ap (λ l. l.numbers) c.self.view_is) high)) c.close_with-closed.ensures.values.2 (c.take-value.ensures.value ∙ ap some c.in-None.is)

pub returns-clause-later : goal.returns-clause-later
returns-clause-later g c = let e = ends g.K.Kept.list g.K.Kept.fixed g.K.Kept.part (g.K.Kept.fixed c.self.inside.table.shared.key.of.value) c.self.inside.table.shared.key.numbers c.into_seat-seat.result.0.id c.into_seat-seat.result.0.me.0 _ _ c.in-Some.value (ap (λ p. p.held) c.into_seat-seat.ensures.shown ∙ c.requires.idle) (λ n low high. ap (λ p. has_number n p) c.into_seat-seat.ensures.shown ∙ c.requires.all n low (subst (λ k. n ≤ k) (ap (λ l. l.numbers) c.self.view_is) high)) c.close_with-closed.ensures.values.2 (c.take-value.ensures.value ∙ ap some c.in-Some.is) in subst (λ p. StartsWith (g.K.Kept.list c.in-Some.value) p.seen) c.into_seat-seat.ensures.shown e.later

pub returns-clause-same : goal.returns-clause-same
returns-clause-same g c = let e = ends g.K.Kept.list g.K.Kept.fixed g.K.Kept.part (g.K.Kept.fixed c.self.inside.table.shared.key.of.value) c.self.inside.table.shared.key.numbers c.into_seat-seat.result.0.id c.into_seat-seat.result.0.me.0 _ _ c.in-Some.value (ap (λ p. p.held) c.into_seat-seat.ensures.shown ∙ c.requires.idle) (λ n low high. ap (λ p. has_number n p) c.into_seat-seat.ensures.shown ∙ c.requires.all n low (subst (λ k. n ≤ k) (ap (λ l. l.numbers) c.self.view_is) high)) c.close_with-closed.ensures.values.2 (c.take-value.ensures.value ∙ ap some c.in-Some.is) in e.fixed_is ∙ ap (λ l. l.fixed) c.self.view_is

pub returns-clause-known : goal.returns-clause-known
returns-clause-known g c = let e = ends g.K.Kept.list g.K.Kept.fixed g.K.Kept.part (g.K.Kept.fixed c.self.inside.table.shared.key.of.value) c.self.inside.table.shared.key.numbers c.into_seat-seat.result.0.id c.into_seat-seat.result.0.me.0 _ _ c.in-Some.value (ap (λ p. p.held) c.into_seat-seat.ensures.shown ∙ c.requires.idle) (λ n low high. ap (λ p. has_number n p) c.into_seat-seat.ensures.shown ∙ c.requires.all n low (subst (λ k. n ≤ k) (ap (λ l. l.numbers) c.self.view_is) high)) c.close_with-closed.ensures.values.2 (c.take-value.ensures.value ∙ ap some c.in-Some.is) in λ n q h. e.parts n q (ap (λ p. known_part n p) c.into_seat-seat.ensures.shown ∙ h)
