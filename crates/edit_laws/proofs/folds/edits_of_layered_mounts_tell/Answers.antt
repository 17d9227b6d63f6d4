use Rattle.edit_laws.proofs.AddLaws.{null_tells, union_tells}
use Rattle.edit_laws.proofs.folds.edits_of_layered_mounts_tell.Goals as goal

pub returns-clause-null : goal.returns-clause-null
returns-clause-null c = null_tells

pub returns-clause-union : goal.returns-clause-union
returns-clause-union c = union_tells
