use Rattle.output_laws.proofs.HistoryNumbers.{one_history}
use Rattle.output_laws.proofs.outputs.outputs_have_one_history.Goals as goal

pub returns : goal.returns
returns c = one_history
