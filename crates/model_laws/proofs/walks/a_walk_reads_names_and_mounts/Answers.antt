use Rattle.model_laws.proofs.AlikeLaws.{same_walk, same_found}
use Rattle.model_laws.proofs.walks.a_walk_reads_names_and_mounts.Goals as goal

pub returns-clause-views : goal.returns-clause-views
returns-clause-views c = same_walk

pub returns-clause-worlds : goal.returns-clause-worlds
returns-clause-worlds c = same_found
