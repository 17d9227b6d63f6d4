use Rattle.layer_laws.proofs.NullLaws.{null_place, null_root}
use Rattle.layer_laws.proofs.nulls.a_null_mount_shows_its_layer.Goals as goal

pub returns-clause-root : goal.returns-clause-root
returns-clause-root c = null_root

pub returns-clause-place : goal.returns-clause-place
returns-clause-place c = null_place
