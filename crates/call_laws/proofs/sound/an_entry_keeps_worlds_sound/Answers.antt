use Rattle.call_laws.proofs.SoundLaws.{sound-doom, sound-detach}
use Rattle.call_laws.proofs.SoundMade.{sound-needed_shadow}
use Rattle.call_laws.proofs.sound.an_entry_keeps_worlds_sound.Goals as goal

pub returns-clause-doom : goal.returns-clause-doom
returns-clause-doom c = sound-doom

pub returns-clause-detach : goal.returns-clause-detach
returns-clause-detach c = sound-detach

pub returns-clause-shadow : goal.returns-clause-shadow
returns-clause-shadow c = sound-needed_shadow
