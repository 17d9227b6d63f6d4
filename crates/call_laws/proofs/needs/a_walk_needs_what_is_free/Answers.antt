use Rattle.call_laws.proofs.NeedLaws.{free-walk_need}
use Rattle.call_laws.proofs.needs.a_walk_needs_what_is_free.Goals as goal

pub returns : goal.returns
returns c = free-walk_need
