use Rattle.call_laws.proofs.WorldLaws.{sound_history, lasting_history, sound_from_start, lasting_from_start}
use Rattle.call_laws.proofs.lasting.legal_histories_keep_worlds_sound.Goals as goal

pub returns-clause-sound : goal.returns-clause-sound
returns-clause-sound c = sound_from_start

pub returns-clause-lasting : goal.returns-clause-lasting
returns-clause-lasting c = lasting_from_start

pub returns-clause-sound_on : goal.returns-clause-sound_on
returns-clause-sound_on c = sound_history

pub returns-clause-lasting_on : goal.returns-clause-lasting_on
returns-clause-lasting_on c = lasting_history
