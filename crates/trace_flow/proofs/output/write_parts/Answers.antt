use Rattle.std.proofs.Common.{[], ◌++◌, List, ℕ, refl, ap, ◌∙◌}
use Rattle.trace_text.specs.History.{history_text}
use Rattle.trace_text.specs.Trees.{trees_text}
use Rattle.trace_text.specs.Output.{first_line, trees_line, last_line, output_text}
use Rattle.trace_flow.specs.declared.piece.Halt.TheVariants as halt
use Rattle.trace_flow.proofs.MoveLaws.{moves_start, halts_here, fails}
use Rattle.trace_flow.proofs.OutputLaws.{entries_done, entries_halt, trees_done, trees_halt, end_passes}
use Rattle.trace_flow.proofs.output.write_parts.Goals as goal

pub returns-in_err-buffer : goal.returns-in_err-buffer
returns-in_err-buffer g c =
    let bytes = output_text c.args.history.now.entries c.args.world.now in
    let here = moves_start g.K.Sink.written g.K.Sink.faults c.args.sink.now bytes bytes refl in
    fails g.K.Sink.written g.K.Sink.faults c.args.sink.now c.args.sink.now bytes [] halt.NoMemory c.from_residual.result c.from_residual.ensures.1 (halts_here g.K.Sink.written g.K.Sink.faults c.args.sink.now c.args.sink.now bytes bytes here)

pub returns-in_err-write_entries : goal.returns-in_err-write_entries
returns-in_err-write_entries g c =
    let bytes = output_text c.args.history.now.entries c.args.world.now in
    let entries = history_text c.args.history.now.entries in
    let trees = trees_text c.args.world.now in
    let starts = c.in_ok-buffer.ensures.items ∙ c.first_line.ensures in
    let halts = entries_halt g.K.Sink.written g.K.Sink.faults c.args.sink.now c.write_entries.new.sink first_line entries trees_line trees last_line c.in_ok-buffer.buffer.items (history_text c.as_slice.result.now) c.in_err-write_entries.field-0.0 starts (ap history_text c.as_slice.ensures) c.in_err-write_entries.ensures
    in
    fails g.K.Sink.written g.K.Sink.faults c.args.sink.now c.write_entries.new.sink bytes [] c.in_err-write_entries.field-0.0 c.from_residual-in_err-write_entries.result c.from_residual-in_err-write_entries.ensures.1 halts

pub returns-in_err-extend_from_slice : goal.returns-in_err-extend_from_slice
returns-in_err-extend_from_slice g c =
    let bytes = output_text c.args.history.now.entries c.args.world.now in
    let entries = history_text c.args.history.now.entries in
    let trees = trees_text c.args.world.now in
    let starts = c.in_ok-buffer.ensures.items ∙ c.first_line.ensures in
    let done = entries_done g.K.Sink.written g.K.Sink.faults c.args.sink.now c.write_entries.new.sink first_line entries trees_line trees last_line c.in_ok-buffer.buffer.items (history_text c.as_slice.result.now) c.write_entries.new.buffer.items starts (ap history_text c.as_slice.ensures) c.in_ok-write_entries.ensures
    in
    fails g.K.Sink.written g.K.Sink.faults c.args.sink.now c.write_entries.new.sink bytes [] halt.NoMemory c.from_residual-in_err-extend_from_slice.result c.from_residual-in_err-extend_from_slice.ensures.1
    (halts_here g.K.Sink.written g.K.Sink.faults c.args.sink.now c.write_entries.new.sink bytes (c.write_entries.new.buffer.items ++ (trees_line ++ (trees ++ last_line))) done)

pub returns-in_err-write_trees : goal.returns-in_err-write_trees
returns-in_err-write_trees g c =
    let bytes = output_text c.args.history.now.entries c.args.world.now in
    let entries = history_text c.args.history.now.entries in
    let trees = trees_text c.args.world.now in
    let starts = c.in_ok-buffer.ensures.items ∙ c.first_line.ensures in
    let done = entries_done g.K.Sink.written g.K.Sink.faults c.args.sink.now c.write_entries.new.sink first_line entries trees_line trees last_line c.in_ok-buffer.buffer.items (history_text c.as_slice.result.now) c.write_entries.new.buffer.items starts (ap history_text c.as_slice.ensures) c.in_ok-write_entries.ensures
    in
    let grows = c.in_ok-extend_from_slice.ensures.items ∙ ap (λ (t : List ℕ). c.write_entries.new.buffer.items ++ t) c.trees_line.ensures in
    let halts = trees_halt g.K.Sink.written g.K.Sink.faults c.args.sink.now c.write_entries.new.sink c.write_trees.new.sink bytes trees_line trees last_line c.write_entries.new.buffer.items c.extend_from_slice.new.self.items c.in_err-write_trees.field-0.0 done grows c.in_err-write_trees.ensures
    in
    fails g.K.Sink.written g.K.Sink.faults c.args.sink.now c.write_trees.new.sink bytes [] c.in_err-write_trees.field-0.0 c.from_residual-in_err-write_trees.result c.from_residual-in_err-write_trees.ensures.1 halts

pub returns-in_err-extend_from_slice-2 : goal.returns-in_err-extend_from_slice-2
returns-in_err-extend_from_slice-2 g c =
    let bytes = output_text c.args.history.now.entries c.args.world.now in
    let entries = history_text c.args.history.now.entries in
    let trees = trees_text c.args.world.now in
    let starts = c.in_ok-buffer.ensures.items ∙ c.first_line.ensures in
    let done = entries_done g.K.Sink.written g.K.Sink.faults c.args.sink.now c.write_entries.new.sink first_line entries trees_line trees last_line c.in_ok-buffer.buffer.items (history_text c.as_slice.result.now) c.write_entries.new.buffer.items starts (ap history_text c.as_slice.ensures) c.in_ok-write_entries.ensures
    in
    let grows = c.in_ok-extend_from_slice.ensures.items ∙ ap (λ (t : List ℕ). c.write_entries.new.buffer.items ++ t) c.trees_line.ensures in
    let also = trees_done g.K.Sink.written g.K.Sink.faults c.args.sink.now c.write_entries.new.sink c.write_trees.new.sink bytes trees_line trees last_line c.write_entries.new.buffer.items c.extend_from_slice.new.self.items c.write_trees.new.buffer.items done grows c.in_ok-write_trees.ensures
    in
    fails g.K.Sink.written g.K.Sink.faults c.args.sink.now c.write_trees.new.sink bytes [] halt.NoMemory c.from_residual-in_err-extend_from_slice-2.result c.from_residual-in_err-extend_from_slice-2.ensures.1
    (halts_here g.K.Sink.written g.K.Sink.faults c.args.sink.now c.write_trees.new.sink bytes (c.write_trees.new.buffer.items ++ last_line) also)

pub returns : goal.returns
returns g c =
    let bytes = output_text c.args.history.now.entries c.args.world.now in
    let entries = history_text c.args.history.now.entries in
    let trees = trees_text c.args.world.now in
    let starts = c.in_ok-buffer.ensures.items ∙ c.first_line.ensures in
    let done = entries_done g.K.Sink.written g.K.Sink.faults c.args.sink.now c.write_entries.new.sink first_line entries trees_line trees last_line c.in_ok-buffer.buffer.items (history_text c.as_slice.result.now) c.write_entries.new.buffer.items starts (ap history_text c.as_slice.ensures) c.in_ok-write_entries.ensures
    in
    let grows = c.in_ok-extend_from_slice.ensures.items ∙ ap (λ (t : List ℕ). c.write_entries.new.buffer.items ++ t) c.trees_line.ensures in
    let also = trees_done g.K.Sink.written g.K.Sink.faults c.args.sink.now c.write_entries.new.sink c.write_trees.new.sink bytes trees_line trees last_line c.write_entries.new.buffer.items c.extend_from_slice.new.self.items c.write_trees.new.buffer.items done grows c.in_ok-write_trees.ensures
    in
    let last = c.in_ok-extend_from_slice-2.ensures.items ∙ ap (λ (t : List ℕ). c.write_trees.new.buffer.items ++ t) c.last_line.ensures in
    end_passes g.K.Sink.written g.K.Sink.faults c.args.sink.now c.write_trees.new.sink c.flush.new.sink bytes last_line c.write_trees.new.buffer.items c.extend_from_slice-2.new.self.items c.flush.result also last c.flush.ensures.passes
