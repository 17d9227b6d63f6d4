use Rattle.open_laws.proofs.HistoryLaws.{all_start, all_needed, all_call, all_history, all_from_start}
use Rattle.open_laws.proofs.standing.mounts_of_references_stand.Goals as goal

pub returns-clause-start : goal.returns-clause-start
returns-clause-start c = all_start

pub returns-clause-needed : goal.returns-clause-needed
returns-clause-needed c = all_needed

pub returns-clause-call : goal.returns-clause-call
returns-clause-call c = all_call

pub returns-clause-history : goal.returns-clause-history
returns-clause-history c = all_from_start

pub returns-clause-history_on : goal.returns-clause-history_on
returns-clause-history_on c = all_history
