use Rattle.output_laws.proofs.HistoryLines.{output_same}
use Rattle.output_laws.proofs.outputs.same_output_same_history.Goals as goal

pub returns : goal.returns
returns c = output_same
