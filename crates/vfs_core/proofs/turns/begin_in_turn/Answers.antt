use Rattle.vfs_core.proofs.SeatLaws.{begin_calls, begin_changes, begin_ends, begin_same, one_begin, rests_at, took}
use Rattle.vfs_core.proofs.turns.begin_in_turn.Goals as goal

pub begin-begun-requires-clause-idle : goal.begin-begun-requires-clause-idle
begin-begun-requires-clause-idle g c =
    let e = c.enter-kern.ensures in
    let was = c.requires.rests in
    rests_at c.args.lock.now.fixed c.args.caller c.args.pass.now c.enter-kern.new.pass c.enter-kern.result was.0
    (record { holds = e.holds; later = e.later; seen = e.seen; same = e.same; known = e.known; parts = e.parts }) was.1

pub end_turn-requires-clause-once : goal.end_turn-requires-clause-once
end_turn-requires-clause-once g c =
    let e = c.enter-kern.ensures in
    let b = c.begin-begun.ensures in
    let was = c.requires.rests in
    begin_ends c.args.lock.now.fixed c.args.caller c.args.pass.now c.enter-kern.new.pass c.enter-kern.result c.begin-begun.new.self was.0 c.args.call c.begin-begun.result
    (record { holds = e.holds; later = e.later; seen = e.seen; same = e.same; known = e.known; parts = e.parts })
    was.1 b.begun b.err

pub returns-clause-took : goal.returns-clause-took
returns-clause-took g c =
    let e = c.enter-kern.ensures in
    let b = c.begin-begun.ensures in
    let l = c.end_turn.ensures in
    took c.args.lock.now.fixed c.args.caller c.args.pass.now c.enter-kern.new.pass c.end_turn.new.pass c.enter-kern.result c.begin-begun.new.self
    (record { holds = e.holds; later = e.later; seen = e.seen; same = e.same; known = e.known; parts = e.parts })
    (record { seen = l.seen; numbers = l.numbers; parts = l.parts })
    (begin_changes c.args.caller c.enter-kern.result c.begin-begun.new.self c.args.call c.begin-begun.result b.begun b.err)
    b.legal

pub returns-clause-one : goal.returns-clause-one
returns-clause-one g c =
    let e = c.enter-kern.ensures in
    let b = c.begin-begun.ensures in
    let l = c.end_turn.ensures in
    let was = c.requires.rests in
    one_begin c.args.lock.now.fixed c.args.caller c.args.pass.now c.enter-kern.new.pass c.end_turn.new.pass c.enter-kern.result c.begin-begun.new.self was.0 c.args.call c.begin-begun.result
    (record { holds = e.holds; later = e.later; seen = e.seen; same = e.same; known = e.known; parts = e.parts })
    (record { seen = l.seen; numbers = l.numbers; parts = l.parts })
    was.1 b.begun b.err

pub returns-clause-begun : goal.returns-clause-begun
returns-clause-begun g c =
    let e = c.enter-kern.ensures in
    let l = c.end_turn.ensures in
    begin_calls c.args.lock.now.fixed c.args.caller c.args.pass.now c.enter-kern.new.pass c.end_turn.new.pass c.enter-kern.result c.begin-begun.new.self c.args.call c.begin-begun.result
    (record { holds = e.holds; later = e.later; seen = e.seen; same = e.same; known = e.known; parts = e.parts })
    (record { seen = l.seen; numbers = l.numbers; parts = l.parts })
    c.begin-begun.ensures.begun

pub returns-clause-same : goal.returns-clause-same
returns-clause-same g c =
    let e = c.enter-kern.ensures in
    let l = c.end_turn.ensures in
    begin_same c.args.lock.now.fixed c.args.caller c.args.pass.now c.enter-kern.new.pass c.end_turn.new.pass c.enter-kern.result c.begin-begun.new.self c.begin-begun.result
    (record { holds = e.holds; later = e.later; seen = e.seen; same = e.same; known = e.known; parts = e.parts })
    (record { seen = l.seen; numbers = l.numbers; parts = l.parts })
    c.begin-begun.ensures.err
