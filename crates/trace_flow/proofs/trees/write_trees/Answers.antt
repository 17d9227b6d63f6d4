use Rattle.std.proofs.Common.{ℕ, ◌++◌, refl}
use Rattle.vfs_tree.specs.declared.mount.Mount.{Mount}
use Rattle.trace_text.specs.Trees.{tree_text, trees_text}
use Rattle.trace_flow.proofs.MoveLaws.{moves_start, item_on, item_halts, fails}
use Rattle.trace_flow.proofs.trees.write_trees.Goals as goal

pub loop-number-init : goal.loop-number-init
loop-number-init g c = (tt, tt, moves_start g.K.Sink.written g.K.Sink.faults c.args.sink.now _ _ cc)

pub loop-number-preserved : goal.loop-number-preserved
loop-number-preserved g c =
    let stores = c.args.world.now.stores in
    let next = c.loop-number.buffer.items ++ tree_text stores c.in-Some.number.now c.in-Some.mount.now in
    (tt, tt, item_on g.K.Sink.written g.K.Sink.faults (λ (e : ℕ × Mount). tree_text stores e.0 e.1) c.args.sink.now c.loop-number.sink c.write_tree.new.sink _ c.loop-number.buffer.items next c.write_tree.new.buffer.items c.loop-number.number-iterator _ (c.in-Some.number.now, c.in-Some.mount.now) c.loop-number.invariant.2 c.in-Some.ensures.steps refl c.in_ok-write_tree.ensures)

pub returns-in_err-write_tree : goal.returns-in_err-write_tree
returns-in_err-write_tree g c =
    let stores = c.args.world.now.stores in
    let bytes = c.args.buffer.now.items ++ trees_text c.args.world.now in
    let next = c.loop-number.buffer.items ++ tree_text stores c.in-Some.number.now c.in-Some.mount.now in
    let halts = item_halts g.K.Sink.written g.K.Sink.faults (λ (e : ℕ × Mount). tree_text stores e.0 e.1) c.args.sink.now c.loop-number.sink c.write_tree.new.sink bytes c.loop-number.buffer.items next c.loop-number.number-iterator _ (c.in-Some.number.now, c.in-Some.mount.now) c.in_err-write_tree.field-0.0 c.loop-number.invariant.2 c.in-Some.ensures.steps refl c.in_err-write_tree.ensures
    in
    fails g.K.Sink.written g.K.Sink.faults c.args.sink.now c.write_tree.new.sink bytes c.write_tree.new.buffer.items c.in_err-write_tree.field-0.0 c.from_residual.result c.from_residual.ensures.1 halts
