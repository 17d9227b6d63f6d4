use Rattle.need_laws.proofs.NeededShown.{needed_shadow, needed_copy, shadow_others, copy_others}
use Rattle.need_laws.proofs.SeenLaws.{shadow_seen, copy_seen}
use Rattle.need_laws.proofs.needing.needed_entries_change_nothing_shown.Goals as goal

pub returns-clause-shadow : goal.returns-clause-shadow
returns-clause-shadow c = needed_shadow

pub returns-clause-copy : goal.returns-clause-copy
returns-clause-copy c = needed_copy

pub returns-clause-shadow_others : goal.returns-clause-shadow_others
returns-clause-shadow_others c = shadow_others

pub returns-clause-copy_others : goal.returns-clause-copy_others
returns-clause-copy_others c = copy_others

pub returns-clause-shadow_seen : goal.returns-clause-shadow_seen
returns-clause-shadow_seen c = shadow_seen

pub returns-clause-copy_seen : goal.returns-clause-copy_seen
returns-clause-copy_seen c = copy_seen
