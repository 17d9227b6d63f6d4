use Rattle.fuel_laws.proofs.ListLaws.{visible_more, stands_more}
use Rattle.fuel_laws.proofs.LookLaws.{child_more, shown_more}
use Rattle.fuel_laws.proofs.StepLaws.{enter_more, leave_more}
use Rattle.fuel_laws.proofs.UpLaws.{low_more, below_more}
use Rattle.fuel_laws.proofs.walking.more_steps_find_the_same.Goals as goal

pub returns-clause-enter : goal.returns-clause-enter
returns-clause-enter c = enter_more

pub returns-clause-leave : goal.returns-clause-leave
returns-clause-leave c = leave_more

pub returns-clause-child : goal.returns-clause-child
returns-clause-child c = child_more

pub returns-clause-shown : goal.returns-clause-shown
returns-clause-shown c = shown_more

pub returns-clause-visible : goal.returns-clause-visible
returns-clause-visible c = visible_more

pub returns-clause-stands : goal.returns-clause-stands
returns-clause-stands c = stands_more

pub returns-clause-low : goal.returns-clause-low
returns-clause-low c = low_more

pub returns-clause-below : goal.returns-clause-below
returns-clause-below c = below_more
