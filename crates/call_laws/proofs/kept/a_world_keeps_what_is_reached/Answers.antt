use Rattle.call_laws.proofs.KeptLaws.{store_kept, node_kept}
use Rattle.call_laws.proofs.kept.a_world_keeps_what_is_reached.Goals as goal

pub returns-clause-stores : goal.returns-clause-stores
returns-clause-stores c = store_kept

pub returns-clause-nodes : goal.returns-clause-nodes
returns-clause-nodes c = node_kept
