use Rattle.need_laws.proofs.AboveLaws.{above-start, above-call, above-inner, above-history, above-from_start}
use Rattle.need_laws.proofs.writing.open_files_are_written_above.Goals as goal

pub returns-clause-start : goal.returns-clause-start
returns-clause-start c = above-start

pub returns-clause-call : goal.returns-clause-call
returns-clause-call c = above-call

pub returns-clause-inner : goal.returns-clause-inner
returns-clause-inner c = above-inner

pub returns-clause-history : goal.returns-clause-history
returns-clause-history c = above-from_start

pub returns-clause-history_on : goal.returns-clause-history_on
returns-clause-history_on c = above-history
