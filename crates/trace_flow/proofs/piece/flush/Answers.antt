use Rattle.std.proofs.Common.{ℕ, List, refl, subst}
use Rattle.vfs_flow.specs.Whole.{WritesFront}
use Rattle.trace_flow.specs.declared.piece.Halt.TheVariants as halt
use Rattle.trace_flow.proofs.MoveLaws.{moves_front}
use Rattle.trace_flow.proofs.piece.flush.Goals as goal

pub returns-in-Failed-clause-passes : goal.returns-in-Failed-clause-passes
returns-in-Failed-clause-passes g c =
    let front = subst (λ (t : List ℕ). WritesFront (g.K.Sink.written c.args.sink.now) (g.K.Sink.written c.write_all.new.sink) t) c.as_slice.ensures.value c.in-Failed.ensures.bytes in
    moves_front g.K.Sink.written g.K.Sink.faults c.args.sink.now c.write_all.new.sink c.args.buffer.now.items halt.Failed front c.in-Failed.ensures.never_falls (λ failed. c.in-Failed.ensures.cause refl)

pub returns-in-NoMemory-clause-passes : goal.returns-in-NoMemory-clause-passes
returns-in-NoMemory-clause-passes g c =
    let front = subst (λ (t : List ℕ). WritesFront (g.K.Sink.written c.args.sink.now) (g.K.Sink.written c.write_all.new.sink) t) c.as_slice.ensures.value c.in-NoMemory.ensures.bytes in
    moves_front g.K.Sink.written g.K.Sink.faults c.args.sink.now c.write_all.new.sink c.args.buffer.now.items halt.NoMemory front c.in-NoMemory.ensures.never_falls (λ failed. absurd cc)
