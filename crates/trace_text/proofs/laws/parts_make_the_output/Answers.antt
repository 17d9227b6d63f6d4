use Rattle.trace_text.proofs.Parts.{parts_output}
use Rattle.trace_text.proofs.laws.parts_make_the_output.Goals as goal

pub returns : goal.returns
returns c = parts_output
