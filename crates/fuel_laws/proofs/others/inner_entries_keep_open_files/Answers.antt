use Rattle.std.proofs.Common.{refl}
use Rattle.call_laws.proofs.LeavingLaws.{leaving-inner}
use Rattle.fuel_laws.proofs.OthersLaws.{open_shadow, open_copied, open_turned, open_doomed, open_doomed_at}
use Rattle.fuel_laws.proofs.others.inner_entries_keep_open_files.Goals as goal

pub returns-clause-shadow : goal.returns-clause-shadow
returns-clause-shadow c = open_shadow

pub returns-clause-detach : goal.returns-clause-detach
returns-clause-detach c = λ w c m. refl

pub returns-clause-copy_up : goal.returns-clause-copy_up
returns-clause-copy_up c = open_copied

pub returns-clause-turned : goal.returns-clause-turned
returns-clause-turned c = open_turned

pub returns-clause-doom : goal.returns-clause-doom
returns-clause-doom c = open_doomed

pub returns-clause-doomed : goal.returns-clause-doomed
returns-clause-doomed c = open_doomed_at

pub returns-clause-leaving : goal.returns-clause-leaving
returns-clause-leaving c = λ w c d x other. leaving-inner w c x d other

pub returns-clause-pending : goal.returns-clause-pending
returns-clause-pending c = λ p c x. refl
