use Rattle.call_laws.proofs.SoundRows.{sound-quiet}
use Rattle.call_laws.proofs.sound.a_quiet_call_keeps_worlds_sound.Goals as goal

pub returns : goal.returns
returns c = sound-quiet
