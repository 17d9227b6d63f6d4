use Rattle.model_laws.proofs.UnmountLaws.{leaver_left, none_left}
use Rattle.model_laws.proofs.unmounts.a_forced_unmount_leaves_no_reference.Goals as goal

pub returns-clause-leaver : goal.returns-clause-leaver
returns-clause-leaver c = leaver_left

pub returns-clause-none : goal.returns-clause-none
returns-clause-none c = none_left
