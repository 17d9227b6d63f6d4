use Rattle.std.proofs.Common.{refl}
use Rattle.fuel_laws.proofs.UpLaws.{below_whole}
use Rattle.fuel_laws.proofs.standing.a_directory_is_below_all_above_it.Goals as goal

pub returns-clause-node : goal.returns-clause-node
returns-clause-node c = λ f d top. refl

pub returns-clause-below : goal.returns-clause-below
returns-clause-below c = below_whole
