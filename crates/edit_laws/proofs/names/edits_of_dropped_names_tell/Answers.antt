use Rattle.edit_laws.proofs.DropTells.{unlink_tells, rmdir_tells, undelete_tells}
use Rattle.edit_laws.proofs.names.edits_of_dropped_names_tell.Goals as goal

pub returns-clause-unlink : goal.returns-clause-unlink
returns-clause-unlink c = unlink_tells

pub returns-clause-rmdir : goal.returns-clause-rmdir
returns-clause-rmdir c = rmdir_tells

pub returns-clause-undelete : goal.returns-clause-undelete
returns-clause-undelete c = undelete_tells
