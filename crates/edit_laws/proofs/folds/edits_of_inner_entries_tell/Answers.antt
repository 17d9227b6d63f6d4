use Rattle.edit_laws.proofs.FoldLaws.{doom_tells, detach_tells}
use Rattle.edit_laws.proofs.folds.edits_of_inner_entries_tell.Goals as goal

pub returns-clause-doom : goal.returns-clause-doom
returns-clause-doom c = doom_tells

pub returns-clause-detach : goal.returns-clause-detach
returns-clause-detach c = detach_tells
