use Rattle.vfs_core.specs.Seats.{known_calls}
use Rattle.vfs_core.proofs.SeatLaws.{joined_of, of_lock, of_seat}
use Rattle.vfs_core.proofs.vfs.Vfs.join.Goals as goal

pub returns-clause-own : goal.returns-clause-own
returns-clause-own c =
    let l = c.self.inside.lock in
    let mine = c.seat.inside in
    let theirs = c.other.inside in
    let born = known_calls mine.caller mine.born.value in
    let other = known_calls theirs.caller theirs.born.value in
    of_seat l c.args.self.now _ c.self.view_is
    (joined_of l mine.caller theirs.caller born other mine.pass theirs.pass c.join.new.pass
    (of_lock l c.args.self.now mine.caller born mine.pass c.args.seat.now c.self.view_is c.seat.view_is c.requires.own.0)
    (of_lock l c.args.self.now theirs.caller other theirs.pass c.args.other c.self.view_is c.other.view_is c.requires.own.1)
    c.join.ensures.own c.join.ensures.parts)
