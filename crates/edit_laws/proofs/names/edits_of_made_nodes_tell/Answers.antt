use Rattle.edit_laws.proofs.MadeTells.{mkdir_tells, symlink_tells, open_tells}
use Rattle.edit_laws.proofs.names.edits_of_made_nodes_tell.Goals as goal

pub returns-clause-mkdir : goal.returns-clause-mkdir
returns-clause-mkdir c = mkdir_tells

pub returns-clause-symlink : goal.returns-clause-symlink
returns-clause-symlink c = symlink_tells

pub returns-clause-open_file : goal.returns-clause-open_file
returns-clause-open_file c = open_tells
