use Rattle.trace_text.proofs.Inners.{same_inner}
use Rattle.trace_text.proofs.laws.same_text_same_inner.Goals as goal

pub returns : goal.returns
returns c = same_inner
