use Rattle.edit_laws.proofs.MoveTells.{rename_tells, link_tells}
use Rattle.edit_laws.proofs.names.edits_of_moved_names_tell.Goals as goal

pub returns-clause-rename : goal.returns-clause-rename
returns-clause-rename c = rename_tells

pub returns-clause-link : goal.returns-clause-link
returns-clause-link c = link_tells
