use Rattle.vfs_core.proofs.SeatLaws.{calls_at, one_step, step_changes, step_ends, step_turn, took}
use Rattle.vfs_core.proofs.turns.step_in_turn.Goals as goal

pub step-stepped-requires : goal.step-stepped-requires
step-stepped-requires g c =
    let e = c.enter-kern.ensures in
    let was = c.requires.live in
    calls_at c.args.lock.now.fixed c.args.caller c.args.pass.now c.enter-kern.new.pass c.enter-kern.result was.0 was.1
    (record { holds = e.holds; later = e.later; seen = e.seen; same = e.same; known = e.known; parts = e.parts }) was.2

pub end_turn-requires-clause-once : goal.end_turn-requires-clause-once
end_turn-requires-clause-once g c =
    let e = c.enter-kern.ensures in
    let was = c.requires.live in
    step_ends c.args.lock.now.fixed c.args.caller c.args.pass.now c.enter-kern.new.pass c.enter-kern.result c.step-stepped.new.self was.0 was.1 c.step-stepped.result
    (record { holds = e.holds; later = e.later; seen = e.seen; same = e.same; known = e.known; parts = e.parts })
    was.2 c.step-stepped.ensures.stepped

pub returns-clause-took : goal.returns-clause-took
returns-clause-took g c =
    let e = c.enter-kern.ensures in
    let l = c.end_turn.ensures in
    took c.args.lock.now.fixed c.args.caller c.args.pass.now c.enter-kern.new.pass c.end_turn.new.pass c.enter-kern.result c.step-stepped.new.self
    (record { holds = e.holds; later = e.later; seen = e.seen; same = e.same; known = e.known; parts = e.parts })
    (record { seen = l.seen; numbers = l.numbers; parts = l.parts })
    (step_changes c.args.caller c.enter-kern.result c.step-stepped.new.self c.step-stepped.result c.step-stepped.ensures.stepped)
    c.step-stepped.ensures.legal

pub returns-clause-one : goal.returns-clause-one
returns-clause-one g c =
    let e = c.enter-kern.ensures in
    let l = c.end_turn.ensures in
    one_step c.args.lock.now.fixed c.args.caller c.args.pass.now c.enter-kern.new.pass c.end_turn.new.pass c.enter-kern.result c.step-stepped.new.self c.step-stepped.result
    (record { holds = e.holds; later = e.later; seen = e.seen; same = e.same; known = e.known; parts = e.parts })
    (record { seen = l.seen; numbers = l.numbers; parts = l.parts })
    c.step-stepped.ensures.stepped

pub returns-clause-stepped : goal.returns-clause-stepped
returns-clause-stepped g c =
    let e = c.enter-kern.ensures in
    let l = c.end_turn.ensures in
    step_turn c.args.lock.now.fixed c.args.caller c.args.pass.now c.enter-kern.new.pass c.end_turn.new.pass c.enter-kern.result c.step-stepped.new.self c.step-stepped.result
    (record { holds = e.holds; later = e.later; seen = e.seen; same = e.same; known = e.known; parts = e.parts })
    (record { seen = l.seen; numbers = l.numbers; parts = l.parts })
    c.step-stepped.ensures.stepped
