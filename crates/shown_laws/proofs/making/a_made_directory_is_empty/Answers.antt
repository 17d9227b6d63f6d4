use Rattle.shown_laws.proofs.MadeEmpty.{made_there, made_nothing}
use Rattle.shown_laws.proofs.making.a_made_directory_is_empty.Goals as goal

pub returns-clause-there : goal.returns-clause-there
returns-clause-there c = made_there

pub returns-clause-empty : goal.returns-clause-empty
returns-clause-empty c = λ w new n text d name o k ns sound lasts layered apart at is. made_nothing w new n text d name o sound lasts layered apart at is k ns
