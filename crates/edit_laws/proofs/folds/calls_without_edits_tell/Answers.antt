use Rattle.edit_laws.proofs.FoldLaws.{quiet_tells, chdir_tells, failed_tells}
use Rattle.edit_laws.proofs.folds.calls_without_edits_tell.Goals as goal

pub returns-clause-quiet : goal.returns-clause-quiet
returns-clause-quiet c = quiet_tells

pub returns-clause-chdir : goal.returns-clause-chdir
returns-clause-chdir c = chdir_tells

pub returns-clause-failed : goal.returns-clause-failed
returns-clause-failed c = failed_tells
