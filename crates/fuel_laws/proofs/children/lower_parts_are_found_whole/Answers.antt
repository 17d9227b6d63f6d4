use Rattle.vfs_tree.specs.Child.{child_within}
use Rattle.fuel_laws.proofs.UpLaws.{lower_none, lower_removed, part_opaque, part_root, lower_linked}
use Rattle.fuel_laws.proofs.children.lower_parts_are_found_whole.Goals as goal

pub returns-clause-none : goal.returns-clause-none
returns-clause-none c = lower_none

pub returns-clause-removed : goal.returns-clause-removed
returns-clause-removed c = lower_removed

pub returns-clause-opaque : goal.returns-clause-opaque
returns-clause-opaque c = λ f m. part_opaque f (child_within m f) m

pub returns-clause-root : goal.returns-clause-root
returns-clause-root c = λ f m. part_root f (child_within m f) m

pub returns-clause-linked : goal.returns-clause-linked
returns-clause-linked c = lower_linked
