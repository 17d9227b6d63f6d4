use Rattle.std.proofs.Common.{◌≡◌, ℕ, subst}
use Rattle.vfs_core.specs.Seats.{Seating, Sharing, Called, CameBack, has_number, known_calls, seated, shared}
use Rattle.vfs_core.proofs.SeatLaws.{called, called_numbers, called_seated, came_back, its_caller, numbers_back, numbers_end, of_lock, of_seat, resting, same_numbers, seat_of}
use Rattle.vfs_core.proofs.vfs.Vfs.call.Goals as goal

pub begin_in_turn-requires-clause-caller : goal.begin_in_turn-requires-clause-caller
begin_in_turn-requires-clause-caller g c =
    let s = c.seat.inside in
    let born = known_calls s.caller s.born.value in
    its_caller c.self.inside.lock s.caller born s.pass
    (of_lock c.self.inside.lock c.args.self.now s.caller born s.pass c.args.seat.now c.self.view_is c.seat.view_is c.requires.own) c.seat.invariant

pub begin_in_turn-requires-clause-rests : goal.begin_in_turn-requires-clause-rests
begin_in_turn-requires-clause-rests g c =
    let s = c.seat.inside in
    resting s.caller (known_calls s.caller s.born.value) s.pass c.seat.invariant

pub end_in_turns-requires-clause-live : goal.end_in_turns-requires-clause-live
end_in_turns-requires-clause-live g c =
    let s = c.seat.inside in
    let was = resting s.caller (known_calls s.caller s.born.value) s.pass c.seat.invariant in
    (was.0, c.args.call, c.in-Ok.ensures.begun was.0 was.1)

pub invariant_of-seat : goal.invariant_of-seat
invariant_of-seat g c =
    let s = c.seat.inside in
    let e = c.end_in_turns.ensures in
    called_seated c.self.inside.lock.fixed s.caller (known_calls s.caller s.born.value) s.pass c.begin_in_turn.new.pass c.end_in_turns.new.pass c.args.call c.end_in_turns.result
    c.seat.invariant e.idle (record { first = c.in-Ok.ensures.took; begun = c.in-Ok.ensures.begun; rest = e.took; ended = e.ended })

pub returns-in-Ok-clause-own : goal.returns-in-Ok-clause-own
returns-in-Ok-clause-own g c =
    let l = c.self.inside.lock in
    let s = c.seat.inside in
    let born = known_calls s.caller s.born.value in
    let e = c.end_in_turns.ensures in
    of_seat l c.args.self.now (seated s.caller born c.end_in_turns.new.pass) c.self.view_is
    (seat_of l s.caller s.caller born born s.pass c.end_in_turns.new.pass
    (of_lock l c.args.self.now s.caller born s.pass c.args.seat.now c.self.view_is c.seat.view_is c.requires.own) e.own
    (called_numbers l.fixed s.caller born s.pass c.begin_in_turn.new.pass c.end_in_turns.new.pass c.args.call c.end_in_turns.result
    c.seat.invariant (record { first = c.in-Ok.ensures.took; begun = c.in-Ok.ensures.begun; rest = e.took; ended = e.ended })))

pub returns-in-Ok-clause-called : goal.returns-in-Ok-clause-called
returns-in-Ok-clause-called g c =
    let l = c.self.inside.lock in
    let s = c.seat.inside in
    let born = known_calls s.caller s.born.value in
    let e = c.end_in_turns.ensures in
    let new = seated s.caller born c.end_in_turns.new.pass in
    subst (λ (v : Sharing). Called v.limits c.args.seat.now new c.args.call c.end_in_turns.result) c.self.view_is
    (subst (λ (x : Seating). Called l.fixed x new c.args.call c.end_in_turns.result) c.seat.view_is
    (called l.fixed s.caller born s.pass c.begin_in_turn.new.pass c.end_in_turns.new.pass c.args.call c.end_in_turns.result
    c.seat.invariant (record { first = c.in-Ok.ensures.took; begun = c.in-Ok.ensures.begun; rest = e.took; ended = e.ended })))

pub returns-in-Err-clause-own : goal.returns-in-Err-clause-own
returns-in-Err-clause-own g c =
    let l = c.self.inside.lock in
    let s = c.seat.inside in
    let born = known_calls s.caller s.born.value in
    let b = c.in-Err.ensures in
    of_seat l c.args.self.now (seated s.caller born c.begin_in_turn.new.pass) c.self.view_is
    (seat_of l s.caller s.caller born born s.pass c.begin_in_turn.new.pass
    (of_lock l c.args.self.now s.caller born s.pass c.args.seat.now c.self.view_is c.seat.view_is c.requires.own) b.own
    (same_numbers l.fixed s.caller s.pass c.begin_in_turn.new.pass b.took b.same))

pub returns-in-Err-clause-refused : goal.returns-in-Err-clause-refused
returns-in-Err-clause-refused g c =
    let l = c.self.inside.lock in
    let s = c.seat.inside in
    let born = known_calls s.caller s.born.value in
    let b = c.in-Err.ensures in
    let new = seated s.caller born c.begin_in_turn.new.pass in
    subst (λ (v : Sharing). CameBack v.limits c.args.seat.now new) c.self.view_is
    (subst (λ (x : Seating). CameBack l.fixed x new) c.seat.view_is
    (came_back l.fixed s.caller born s.pass c.begin_in_turn.new.pass c.seat.invariant b.took b.same))

pub returns-in-Ok-clause-numbers : goal.returns-in-Ok-clause-numbers
returns-in-Ok-clause-numbers g c =
    let s = c.seat.inside in
    let born = known_calls s.caller s.born.value in
    let e = c.end_in_turns.ensures in
    let new = seated s.caller born c.end_in_turns.new.pass in
    subst (λ (x : Seating). (n : ℕ) → has_number n new ≡ has_number n x) c.seat.view_is
    (numbers_end c.self.inside.lock.fixed s.caller born s.pass c.begin_in_turn.new.pass c.end_in_turns.new.pass c.args.call c.end_in_turns.result
    c.seat.invariant (record { first = c.in-Ok.ensures.took; begun = c.in-Ok.ensures.begun; rest = e.took; ended = e.ended }))

pub returns-in-Err-clause-numbers : goal.returns-in-Err-clause-numbers
returns-in-Err-clause-numbers g c =
    let s = c.seat.inside in
    let born = known_calls s.caller s.born.value in
    let new = seated s.caller born c.begin_in_turn.new.pass in
    subst (λ (x : Seating). (n : ℕ) → has_number n new ≡ has_number n x) c.seat.view_is
    (numbers_back c.self.inside.lock.fixed s.caller born s.pass c.begin_in_turn.new.pass c.in-Err.ensures.took c.in-Err.ensures.same)
