use Rattle.call_laws.proofs.NeededLaws.{sound_needed, lasting_needed}
use Rattle.call_laws.proofs.lasting.a_needed_entry_keeps_worlds_lasting.Goals as goal

pub returns-clause-sound : goal.returns-clause-sound
returns-clause-sound c = sound_needed

pub returns-clause-lasting : goal.returns-clause-lasting
returns-clause-lasting c = lasting_needed
