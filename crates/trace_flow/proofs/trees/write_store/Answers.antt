use Rattle.std.proofs.Common.{ℕ, ◌++◌, refl}
use Rattle.vfs_tree.specs.declared.node.Node.{Node}
use Rattle.trace_text.specs.Trees.{shown_text, store_text}
use Rattle.trace_flow.specs.declared.piece.Halt.TheVariants as halt
use Rattle.trace_flow.proofs.MoveLaws.{moves_start, halts_here, item_on, item_halts, fails}
use Rattle.trace_flow.proofs.NodeLaws.{shown_grows}
use Rattle.trace_flow.proofs.trees.write_store.Goals as goal

pub returns-in_err-given : goal.returns-in_err-given
returns-in_err-given g c =
    let bytes = c.args.buffer.now.items ++ store_text c.args.store.now in
    let here = moves_start g.K.Sink.written g.K.Sink.faults c.args.sink.now bytes bytes refl in
    fails g.K.Sink.written g.K.Sink.faults c.args.sink.now c.args.sink.now bytes c.args.buffer.now.items halt.NoMemory c.from_residual.result c.from_residual.ensures.1 (halts_here g.K.Sink.written g.K.Sink.faults c.args.sink.now c.args.sink.now bytes bytes here)

pub loop-ino-init : goal.loop-ino-init
loop-ino-init g c = (tt, tt, moves_start g.K.Sink.written g.K.Sink.faults c.args.sink.now _ _ cc)

pub returns-in_err-put_shown : goal.returns-in_err-put_shown
returns-in_err-put_shown g c =
    let bytes = c.args.buffer.now.items ++ store_text c.args.store.now in
    fails g.K.Sink.written g.K.Sink.faults c.args.sink.now c.loop-ino.sink bytes c.put_shown.new.out.items halt.NoMemory c.from_residual-in_err-put_shown.result c.from_residual-in_err-put_shown.ensures.1 (halts_here g.K.Sink.written g.K.Sink.faults c.args.sink.now c.loop-ino.sink bytes _ c.loop-ino.invariant.2)

pub loop-ino-preserved : goal.loop-ino-preserved
loop-ino-preserved g c =
    let store = c.args.store.now in
    let grows = shown_grows store _ c.in-Some.ino.now c.in-Some.node.now c.loop-ino.buffer.items c.put_shown.new.out.items c.in_ok-given.ensures c.in_ok-put_shown.ensures in
    (tt, tt, item_on g.K.Sink.written g.K.Sink.faults (λ (e : ℕ × Node). shown_text store e.0 e.1) c.args.sink.now c.loop-ino.sink c.pass.new.sink _ c.loop-ino.buffer.items c.put_shown.new.out.items c.pass.new.buffer.items c.loop-ino.ino-iterator _ (c.in-Some.ino.now, c.in-Some.node.now) c.loop-ino.invariant.2 c.in-Some.ensures.steps grows c.in_ok-pass.ensures.passes)

pub returns-in_err-pass : goal.returns-in_err-pass
returns-in_err-pass g c =
    let store = c.args.store.now in
    let bytes = c.args.buffer.now.items ++ store_text store in
    let grows = shown_grows store _ c.in-Some.ino.now c.in-Some.node.now c.loop-ino.buffer.items c.put_shown.new.out.items c.in_ok-given.ensures c.in_ok-put_shown.ensures in
    let halts = item_halts g.K.Sink.written g.K.Sink.faults (λ (e : ℕ × Node). shown_text store e.0 e.1) c.args.sink.now c.loop-ino.sink c.pass.new.sink bytes c.loop-ino.buffer.items c.put_shown.new.out.items c.loop-ino.ino-iterator _ (c.in-Some.ino.now, c.in-Some.node.now) c.in_err-pass.field-0.0 c.loop-ino.invariant.2 c.in-Some.ensures.steps grows c.in_err-pass.ensures.passes
    in
    fails g.K.Sink.written g.K.Sink.faults c.args.sink.now c.pass.new.sink bytes c.pass.new.buffer.items c.in_err-pass.field-0.0 c.from_residual-in_err-pass.result c.from_residual-in_err-pass.ensures.1 halts
