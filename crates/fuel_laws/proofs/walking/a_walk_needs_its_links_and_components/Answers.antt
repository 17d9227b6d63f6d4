use Rattle.std.proofs.Common.{refl}
use Rattle.fuel_laws.proofs.StepLaws.{more_walk, more_find, find_is}
use Rattle.fuel_laws.proofs.walking.a_walk_needs_its_links_and_components.Goals as goal

pub returns-clause-walk : goal.returns-clause-walk
returns-clause-walk c = λ f leaf parts d. refl

pub returns-clause-find : goal.returns-clause-find
returns-clause-find c = find_is

pub returns-clause-links : goal.returns-clause-links
returns-clause-links c = more_walk

pub returns-clause-path : goal.returns-clause-path
returns-clause-path c = more_find
