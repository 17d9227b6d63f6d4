use Rattle.fuel_laws.proofs.OpenLaws.{open_descriptor, open_lowest, open_few, open_just}
use Rattle.fuel_laws.proofs.opening.open_answers_the_lowest_descriptor.Goals as goal

pub returns-clause-descriptor : goal.returns-clause-descriptor
returns-clause-descriptor c = open_descriptor

pub returns-clause-lowest : goal.returns-clause-lowest
returns-clause-lowest c = open_lowest

pub returns-clause-few : goal.returns-clause-few
returns-clause-few c = open_few

pub returns-clause-opened : goal.returns-clause-opened
returns-clause-opened c = open_just
