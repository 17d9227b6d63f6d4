use Rattle.open_laws.proofs.HistoryLaws.{standing_start, standing_needed, standing_call, standing_history, standing_from_start}
use Rattle.open_laws.proofs.standing.mounts_of_open_files_stand.Goals as goal

pub returns-clause-start : goal.returns-clause-start
returns-clause-start c = standing_start

pub returns-clause-needed : goal.returns-clause-needed
returns-clause-needed c = standing_needed

pub returns-clause-call : goal.returns-clause-call
returns-clause-call c = standing_call

pub returns-clause-history : goal.returns-clause-history
returns-clause-history c = standing_from_start

pub returns-clause-history_on : goal.returns-clause-history_on
returns-clause-history_on c = standing_history
