use Rattle.std.proofs.Common.{◌++◌, refl}
use Rattle.trace_text.specs.Trees.{tree_text}
use Rattle.trace_flow.specs.declared.piece.Halt.TheVariants as halt
use Rattle.trace_flow.proofs.MoveLaws.{moves_start, halts_here, fails}
use Rattle.trace_flow.proofs.trees.write_tree.Goals as goal

pub returns-in_err-put_mount : goal.returns-in_err-put_mount
returns-in_err-put_mount g c =
    let bytes = c.args.buffer.now.items ++ tree_text c.args.stores.now c.args.number c.args.mount.now in
    let here = moves_start g.K.Sink.written g.K.Sink.faults c.args.sink.now bytes bytes refl in
    fails g.K.Sink.written g.K.Sink.faults c.args.sink.now c.args.sink.now bytes c.put_mount.new.out.items halt.NoMemory c.from_residual.result c.from_residual.ensures.1 (halts_here g.K.Sink.written g.K.Sink.faults c.args.sink.now c.args.sink.now bytes bytes here)
