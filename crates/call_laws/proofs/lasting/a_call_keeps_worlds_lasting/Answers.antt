use Rattle.call_laws.proofs.WorldLaws.{sound_call, lasting_call}
use Rattle.call_laws.proofs.lasting.a_call_keeps_worlds_lasting.Goals as goal

pub returns-clause-sound : goal.returns-clause-sound
returns-clause-sound c = sound_call

pub returns-clause-lasting : goal.returns-clause-lasting
returns-clause-lasting c = lasting_call
