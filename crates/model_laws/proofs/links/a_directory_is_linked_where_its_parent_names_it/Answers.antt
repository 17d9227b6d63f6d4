use Rattle.model_laws.proofs.LinkLaws.{linked_above, above_linked, given_linked, root_linked, given_once}
use Rattle.model_laws.proofs.links.a_directory_is_linked_where_its_parent_names_it.Goals as goal

pub returns-clause-named : goal.returns-clause-named
returns-clause-named c = linked_above

pub returns-clause-linked : goal.returns-clause-linked
returns-clause-linked c = above_linked

pub returns-clause-given : goal.returns-clause-given
returns-clause-given c = given_linked

pub returns-clause-root : goal.returns-clause-root
returns-clause-root c = root_linked

pub returns-clause-once : goal.returns-clause-once
returns-clause-once c = given_once
