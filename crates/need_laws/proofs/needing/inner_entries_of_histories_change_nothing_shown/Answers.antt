use Rattle.need_laws.proofs.NeededShown.{history_shadow, history_copy}
use Rattle.need_laws.proofs.needing.inner_entries_of_histories_change_nothing_shown.Goals as goal

pub returns-clause-shadow : goal.returns-clause-shadow
returns-clause-shadow c = history_shadow

pub returns-clause-copy : goal.returns-clause-copy
returns-clause-copy c = history_copy
