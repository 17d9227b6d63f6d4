use Rattle.fuel_laws.proofs.ListLaws.{stands_whole}
use Rattle.fuel_laws.proofs.standing.a_mount_stands_on_all_below_it.Goals as goal

pub returns : goal.returns
returns c = stands_whole
