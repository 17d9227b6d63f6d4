use Rattle.output_laws.proofs.HistoryNumbers.{history_few}
use Rattle.output_laws.proofs.bounds.legal_histories_are_bounded.Goals as goal

pub returns : goal.returns
returns c = history_few
