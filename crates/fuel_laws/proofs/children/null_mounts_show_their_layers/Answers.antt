use Rattle.fuel_laws.proofs.NullLaws.{null_root, null_place}
use Rattle.fuel_laws.proofs.children.null_mounts_show_their_layers.Goals as goal

pub returns-clause-root : goal.returns-clause-root
returns-clause-root c = null_root

pub returns-clause-place : goal.returns-clause-place
returns-clause-place c = null_place
