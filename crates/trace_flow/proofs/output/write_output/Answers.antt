use Rattle.trace_text.specs.Output.{output_text}
use Rattle.trace_flow.proofs.OutputLaws.{moves_whole, halts_front}
use Rattle.trace_flow.proofs.output.write_output.Goals as goal

pub returns-in-Ok-clause-bytes : goal.returns-in-Ok-clause-bytes
returns-in-Ok-clause-bytes g c = moves_whole g.K.Sink.written g.K.Sink.faults c.args.sink.now c.write_parts.new.sink (output_text c.args.history.now.entries c.args.world.now) c.in-Ok.ensures

pub returns-in-Err-Failed-clause-bytes : goal.returns-in-Err-Failed-clause-bytes
returns-in-Err-Failed-clause-bytes g c = halts_front g.K.Sink.written g.K.Sink.faults c.args.sink.now c.write_parts.new.sink (output_text c.args.history.now.entries c.args.world.now) _ c.in-Err-Failed.ensures

pub returns-in-Err-NoMemory-clause-bytes : goal.returns-in-Err-NoMemory-clause-bytes
returns-in-Err-NoMemory-clause-bytes g c = halts_front g.K.Sink.written g.K.Sink.faults c.args.sink.now c.write_parts.new.sink (output_text c.args.history.now.entries c.args.world.now) _ c.in-Err-NoMemory.ensures
