use Rattle.std.proofs.Common.{◌++◌, flat_map}
use Rattle.trace_text.specs.Trees.{shown_text, store_text}
use Rattle.trace_flow.specs.Moves.{Moves}
use Rattle.trace_flow.proofs.trees.write_store.Given as goal

-- the lines of the nodes that are left aren't in the buffer yet
abbrev pub invariant-loop-ino : goal.invariant-loop-ino
invariant-loop-ino g l =
    (goal.iterator-loop-ino g).can_next l.ino-iterator ×
    (goal.iterator-loop-ino g).is_finite l.ino-iterator ×
    Moves g.K.Sink.written g.K.Sink.faults l.fn.sink l.sink (l.fn.buffer.items ++ store_text l.store) (l.buffer.items ++ flat_map (λ e. shown_text l.store e.0 e.1) l.ino-iterator)
