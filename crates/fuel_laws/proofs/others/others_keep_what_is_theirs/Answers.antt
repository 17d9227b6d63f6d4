use Rattle.fuel_laws.proofs.OthersLaws.{others_open, others_leaving}
use Rattle.fuel_laws.proofs.PendingLaws.{ended_others}
use Rattle.fuel_laws.proofs.others.others_keep_what_is_theirs.Goals as goal

pub returns-clause-opens : goal.returns-clause-opens
returns-clause-opens c = others_open

pub returns-clause-leaving : goal.returns-clause-leaving
returns-clause-leaving c = others_leaving

pub returns-clause-pending : goal.returns-clause-pending
returns-clause-pending c = ended_others
