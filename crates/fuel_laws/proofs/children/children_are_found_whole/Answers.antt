use Rattle.std.proofs.Common.{refl}
use Rattle.fuel_laws.proofs.LookLaws.{child_null_whole, child_union_whole, child_falling}
use Rattle.fuel_laws.proofs.children.children_are_found_whole.Goals as goal

pub returns-clause-mem : goal.returns-clause-mem
returns-clause-mem c = λ f m i n. refl

pub returns-clause-null : goal.returns-clause-null
returns-clause-null c = child_null_whole

pub returns-clause-union : goal.returns-clause-union
returns-clause-union c = child_union_whole

pub returns-clause-file : goal.returns-clause-file
returns-clause-file c = λ f m u a n p. refl

pub returns-clause-falling : goal.returns-clause-falling
returns-clause-falling c = child_falling
