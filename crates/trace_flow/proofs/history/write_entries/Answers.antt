use Rattle.std.proofs.Common.{◌+◌, ◌++◌, drop}
use Rattle.trace_text.specs.History.{entry_line, history_text}
use Rattle.trace_flow.proofs.MoveLaws.{moves_on, halts_on, fails}
use Rattle.trace_flow.proofs.EntryLaws.{next_line}
use Rattle.trace_flow.proofs.history.write_entries.Goals as goal

pub returns-in_err-pass : goal.returns-in_err-pass
returns-in_err-pass g c =
    let entries = c.args.entries.now in
    let i = c.loop-entry.entry-index in
    let entry = c.entry-item.result in
    let next = next_line entries i entry c.loop-entry-test.true c.entry-item.is in
    let halts = halts_on g.K.Sink.written g.K.Sink.faults c.args.sink.now c.loop-entry.sink c.pass.new.sink (c.args.buffer.now.items ++ history_text entries) c.loop-entry.buffer.items (entry_line entry) c.put_entry_line.new.out.items (history_text (drop i entries)) (history_text (drop (i + 1) entries)) c.in_err-pass.field-0.0 c.loop-entry.invariant next c.in_ok-put_entry_line.ensures c.in_err-pass.ensures.passes
    in
    fails g.K.Sink.written g.K.Sink.faults c.args.sink.now c.pass.new.sink (c.args.buffer.now.items ++ history_text entries) c.pass.new.buffer.items c.in_err-pass.field-0.0 c.from_residual-in_err-pass.result c.from_residual-in_err-pass.ensures.1 halts

pub loop-entry-preserved : goal.loop-entry-preserved
loop-entry-preserved g c =
    let entries = c.args.entries.now in
    let i = c.loop-entry.entry-index in
    let entry = c.entry-item.result in
    let next = next_line entries i entry c.loop-entry-test.true c.entry-item.is in
    moves_on g.K.Sink.written g.K.Sink.faults c.args.sink.now c.loop-entry.sink c.pass.new.sink (c.args.buffer.now.items ++ history_text entries) c.loop-entry.buffer.items (entry_line entry) c.put_entry_line.new.out.items (history_text (drop i entries)) (history_text (drop (i + 1) entries)) c.pass.new.buffer.items c.loop-entry.invariant next c.in_ok-put_entry_line.ensures c.in_ok-pass.ensures.passes
