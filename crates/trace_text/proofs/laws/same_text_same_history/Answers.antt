use Rattle.trace_text.proofs.Entries.{history_same}
use Rattle.trace_text.proofs.laws.same_text_same_history.Goals as goal

pub returns : goal.returns
returns c = history_same
