use Rattle.shown_laws.proofs.Undeleted.{undeleted_union, undeleted_other}
use Rattle.shown_laws.proofs.names.an_undeleted_name_shows_the_lower_layer.Goals as goal

pub returns-clause-union : goal.returns-clause-union
returns-clause-union c = λ w new n m u text d name o ns sound lasts layered at up is. undeleted_union w new n text d name o ns sound lasts at is layered m u up

pub returns-clause-other : goal.returns-clause-other
returns-clause-other c = λ w new n text d name o ns sound lasts at other is. undeleted_other w new n text d name o ns sound lasts at is other
