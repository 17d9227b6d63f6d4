use Rattle.call_laws.proofs.SoundLaws.{sound-start}
use Rattle.call_laws.proofs.sound.the_start_is_sound.Goals as goal

pub returns : goal.returns
returns c = sound-start
