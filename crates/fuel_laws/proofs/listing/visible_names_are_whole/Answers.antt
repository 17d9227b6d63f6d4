use Rattle.std.proofs.Common.{refl}
use Rattle.fuel_laws.proofs.ListLaws.{visible_null, visible_union}
use Rattle.fuel_laws.proofs.listing.visible_names_are_whole.Goals as goal

pub returns-clause-mem : goal.returns-clause-mem
returns-clause-mem c = λ w m i. refl

pub returns-clause-null : goal.returns-clause-null
returns-clause-null c = visible_null

pub returns-clause-union : goal.returns-clause-union
returns-clause-union c = visible_union

pub returns-clause-file : goal.returns-clause-file
returns-clause-file c = λ w m u n p. refl
