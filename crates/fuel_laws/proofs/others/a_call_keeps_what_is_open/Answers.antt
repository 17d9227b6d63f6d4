use Rattle.fuel_laws.proofs.OthersLaws.{stays_open}
use Rattle.fuel_laws.proofs.others.a_call_keeps_what_is_open.Goals as goal

pub returns : goal.returns
returns c = stays_open
