use Rattle.need_laws.proofs.LeftLaws.{shadow_left, copy_left, others_left, files_left}
use Rattle.need_laws.proofs.writing.inner_entries_change_nodes_above.Goals as goal

pub returns-clause-shadow : goal.returns-clause-shadow
returns-clause-shadow c = shadow_left

pub returns-clause-copy : goal.returns-clause-copy
returns-clause-copy c = copy_left

pub returns-clause-others : goal.returns-clause-others
returns-clause-others c = others_left

pub returns-clause-files : goal.returns-clause-files
returns-clause-files c = files_left
