use Rattle.std.proofs.Common.{◌++◌, drop}
use Rattle.trace_text.specs.History.{history_text}
use Rattle.trace_flow.specs.Moves.{Moves}
use Rattle.trace_flow.proofs.history.write_entries.Given as goal

-- the lines of the entries that are left aren't in the buffer yet
abbrev pub invariant-loop-entry : goal.invariant-loop-entry
invariant-loop-entry g l =
    Moves g.K.Sink.written g.K.Sink.faults l.fn.sink l.sink (l.fn.buffer.items ++ history_text l.entries) (l.buffer.items ++ history_text (drop l.entry-index l.entries))
