use Rattle.fuel_laws.proofs.FallLaws.{over_falling, path_falling, dir_falling, opens_falling, cwds_falling}
use Rattle.fuel_laws.proofs.children.what_is_found_is_falling.Goals as goal

pub returns-clause-over : goal.returns-clause-over
returns-clause-over c = over_falling

pub returns-clause-path : goal.returns-clause-path
returns-clause-path c = path_falling

pub returns-clause-dir : goal.returns-clause-dir
returns-clause-dir c = dir_falling

pub returns-clause-opens : goal.returns-clause-opens
returns-clause-opens c = opens_falling

pub returns-clause-cwds : goal.returns-clause-cwds
returns-clause-cwds c = cwds_falling
