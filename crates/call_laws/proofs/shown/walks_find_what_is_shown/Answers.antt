use Rattle.call_laws.proofs.ShownLaws.{shown_there, shown_absent}
use Rattle.call_laws.proofs.shown.walks_find_what_is_shown.Goals as goal

pub returns-clause-there : goal.returns-clause-there
returns-clause-there c = shown_there

pub returns-clause-absent : goal.returns-clause-absent
returns-clause-absent c = shown_absent
