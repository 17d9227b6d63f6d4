use Rattle.shown_laws.proofs.HiddenNames.{unlink_hides, rmdir_hides}
use Rattle.shown_laws.proofs.names.a_removed_name_shows_nothing.Goals as goal

pub returns-clause-unlink : goal.returns-clause-unlink
returns-clause-unlink c = λ w new n text d name o ns sound lasts at. unlink_hides w new n text d name o ns sound lasts at

pub returns-clause-rmdir : goal.returns-clause-rmdir
returns-clause-rmdir c = λ w new n text d name o ns sound lasts at. rmdir_hides w new n text d name o ns sound lasts at
