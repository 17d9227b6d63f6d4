use Rattle.std.proofs.Common.{refl}
use Rattle.vfs_tree.specs.Shown.{shown_child}
use Rattle.fuel_laws.proofs.LookLaws.{shown_null_whole, shown_union_whole, shown_falling}
use Rattle.fuel_laws.proofs.UpLaws.{part_opaque, part_root, shown_lower_whole, shown_below}
use Rattle.fuel_laws.proofs.children.trees_are_shown_whole.Goals as goal

pub returns-clause-mem : goal.returns-clause-mem
returns-clause-mem c = λ f m i n. refl

pub returns-clause-null : goal.returns-clause-null
returns-clause-null c = shown_null_whole

pub returns-clause-union : goal.returns-clause-union
returns-clause-union c = shown_union_whole

pub returns-clause-lower : goal.returns-clause-lower
returns-clause-lower c = shown_lower_whole

pub returns-clause-opaque : goal.returns-clause-opaque
returns-clause-opaque c = λ f. part_opaque f (shown_child f)

pub returns-clause-root : goal.returns-clause-root
returns-clause-root c = λ f. part_root f (shown_child f)

pub returns-clause-falling : goal.returns-clause-falling
returns-clause-falling c = shown_falling

pub returns-clause-itself : goal.returns-clause-itself
returns-clause-itself c = λ w d. refl

pub returns-clause-below : goal.returns-clause-below
returns-clause-below c = shown_below
