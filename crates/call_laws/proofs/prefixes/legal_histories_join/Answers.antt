use Rattle.call_laws.proofs.PrefixLaws.{legal-joined, legal-before, legal-after, replay-joined, before_comes}
use Rattle.call_laws.proofs.prefixes.legal_histories_join.Goals as goal

pub returns-clause-joined : goal.returns-clause-joined
returns-clause-joined c = legal-joined

pub returns-clause-before : goal.returns-clause-before
returns-clause-before c = legal-before

pub returns-clause-behind : goal.returns-clause-behind
returns-clause-behind c = legal-after

pub returns-clause-world : goal.returns-clause-world
returns-clause-world c = replay-joined

pub returns-clause-pending : goal.returns-clause-pending
returns-clause-pending c = before_comes
