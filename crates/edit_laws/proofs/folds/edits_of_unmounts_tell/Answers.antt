use Rattle.edit_laws.proofs.FoldLaws.{umount_tells, force_tells}
use Rattle.edit_laws.proofs.folds.edits_of_unmounts_tell.Goals as goal

pub returns-clause-plain : goal.returns-clause-plain
returns-clause-plain c = umount_tells

pub returns-clause-forced : goal.returns-clause-forced
returns-clause-forced c = force_tells
