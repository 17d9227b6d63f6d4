use Rattle.call_laws.proofs.ChdirLaws.{sound-chdir}
use Rattle.call_laws.proofs.places.chdir_keeps_worlds_sound.Goals as goal

pub returns : goal.returns
returns c = sound-chdir
