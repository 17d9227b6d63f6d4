use Rattle.layer_laws.proofs.LyingLaws.{sound_stay, sound_stay_from_start}
use Rattle.layer_laws.proofs.lying.an_unmount_leaves_layers_whole.Goals as goal

pub returns-clause-world : goal.returns-clause-world
returns-clause-world c = sound_stay

pub returns-clause-history : goal.returns-clause-history
returns-clause-history c = sound_stay_from_start
