use Rattle.edit_laws.proofs.FoldLaws.{told_history, told_none}
use Rattle.edit_laws.proofs.folds.edits_of_entries_tell_histories.Goals as goal

pub returns-clause-history : goal.returns-clause-history
returns-clause-history c = told_history

pub returns-clause-none : goal.returns-clause-none
returns-clause-none c = told_none
