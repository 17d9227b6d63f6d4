use Rattle.std.proofs.Common.{◌++◌, flat_map}
use Rattle.trace_text.specs.Trees.{tree_text, trees_text}
use Rattle.trace_flow.specs.Moves.{Moves}
use Rattle.trace_flow.proofs.trees.write_trees.Given as goal

-- the lines of the mounts that are left aren't in the buffer yet
abbrev pub invariant-loop-number : goal.invariant-loop-number
invariant-loop-number g l =
    (goal.iterator-loop-number g).can_next l.number-iterator ×
    (goal.iterator-loop-number g).is_finite l.number-iterator ×
    Moves g.K.Sink.written g.K.Sink.faults l.fn.sink l.sink (l.fn.buffer.items ++ trees_text l.world) (l.buffer.items ++ flat_map (λ e. tree_text l.world.stores e.0 e.1) l.number-iterator)
