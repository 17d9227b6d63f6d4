use Rattle.trace_text.proofs.Replies.{same_reply}
use Rattle.trace_text.proofs.laws.same_text_same_reply.Goals as goal

pub returns : goal.returns
returns c = same_reply
