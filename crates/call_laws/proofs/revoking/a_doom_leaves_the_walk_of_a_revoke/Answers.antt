use Rattle.call_laws.proofs.RevokeLaws.{revoking_start, revoking_next}
use Rattle.call_laws.proofs.revoking.a_doom_leaves_the_walk_of_a_revoke.Goals as goal

pub returns-clause-started : goal.returns-clause-started
returns-clause-started c = revoking_start

pub returns-clause-next : goal.returns-clause-next
returns-clause-next c = revoking_next
