use Rattle.std.proofs.Common.{◌≢◌, ◌∙◌, sym, ap, subst}
use Rattle.vfs_core.specs.Seats.{Seating, IsSeatOf, IsSeated, has_number, known_calls, mine, seated, shared}
use Rattle.vfs_core.proofs.SeatLaws.{born_mine, fewer_given, fewer_kept, given_seated, kept_mine, kept_seated, number_same, of_lock, of_seat, seat_of}
use Rattle.vfs_core.proofs.vfs.Vfs.split.Goals as goal
use Rattle.vfs_core.proofs.vfs.Vfs.split.Goals.{After-of-born}

-- the number that is cut off is another than the seat's own
another : (c : After-of-born) → c.args.caller ≢ c.seat.inside.caller
another c = λ e. c.requires.another (e ∙ ap (λ (s : Seating). s.caller) c.seat.view_is)

own : (c : After-of-born) → IsSeatOf (shared c.self.inside.lock) (seated c.seat.inside.caller (known_calls c.seat.inside.caller c.seat.inside.born.value) c.seat.inside.pass)
own c = of_lock c.self.inside.lock c.args.self.now c.seat.inside.caller (known_calls c.seat.inside.caller c.seat.inside.born.value) c.seat.inside.pass c.args.seat.now c.self.view_is c.seat.view_is c.requires.own

pub invariant_of-seat : goal.invariant_of-seat
invariant_of-seat c =
    kept_seated c.seat.inside.caller c.args.caller (known_calls c.seat.inside.caller c.seat.inside.born.value) c.seat.inside.pass c.split-pass.new.pass
    c.seat.invariant (another c) c.split-pass.ensures.idle.0 c.split-pass.ensures.kept

pub invariant_of-result : goal.invariant_of-result
invariant_of-result c =
    let born = known_calls c.seat.inside.caller c.seat.inside.born.value in
    let has = sym (number_same c.args.caller c.seat.inside.caller born c.seat.inside.pass) ∙ ap (has_number c.args.caller) c.seat.view_is ∙ c.requires.has in
    subst (λ x. IsSeated c.args.caller (known_calls c.args.caller x) c.split-pass.result) (sym c.of-born.ensures)
    (given_seated c.seat.inside.caller c.args.caller born c.seat.inside.pass c.split-pass.result c.seat.invariant has c.split-pass.ensures.idle.1 c.split-pass.ensures.given)

pub returns-clause-own : goal.returns-clause-own
returns-clause-own c =
    let l = c.self.inside.lock in
    let p = c.seat.inside.pass in
    let born = known_calls c.seat.inside.caller c.seat.inside.born.value in (
      of_seat l c.args.self.now _ c.self.view_is
          (seat_of l c.seat.inside.caller c.seat.inside.caller born born p c.split-pass.new.pass (own c) c.split-pass.ensures.own.0 (fewer_kept c.args.caller p c.split-pass.new.pass c.split-pass.ensures.kept)),
      of_seat l c.args.self.now _ c.self.view_is
          (seat_of l c.seat.inside.caller c.args.caller born (known_calls c.args.caller c.of-born.result.value) p c.split-pass.result (own c) c.split-pass.ensures.own.1
          (fewer_given c.args.caller p c.split-pass.result c.split-pass.ensures.given)),
    )

pub returns-clause-mine : goal.returns-clause-mine
returns-clause-mine c = (
  born_mine c.args.caller (known_calls c.args.caller c.of-born.result.value) c.split-pass.result (ap (known_calls c.args.caller) c.of-born.ensures),
  kept_mine c.seat.inside.caller c.args.caller (known_calls c.seat.inside.caller c.seat.inside.born.value) c.seat.inside.pass c.split-pass.new.pass (another c) c.split-pass.ensures.kept ∙ ap mine c.seat.view_is,
)
