use Rattle.edit_laws.proofs.HistoryTells.{history_tells, start_tells, quiet_end, quiet_from_start}
use Rattle.edit_laws.proofs.histories.edits_of_legal_histories_tell.Goals as goal

pub returns-clause-start : goal.returns-clause-start
returns-clause-start c = start_tells

pub returns-clause-world : goal.returns-clause-world
returns-clause-world c = history_tells

pub returns-clause-start_none : goal.returns-clause-start_none
returns-clause-start_none c = quiet_from_start

pub returns-clause-world_none : goal.returns-clause-world_none
returns-clause-world_none c = quiet_end
