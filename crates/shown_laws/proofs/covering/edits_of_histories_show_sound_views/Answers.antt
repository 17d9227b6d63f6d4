use Rattle.shown_laws.proofs.CoveredViews.{sound_edits, covered_edits}
use Rattle.shown_laws.proofs.covering.edits_of_histories_show_sound_views.Goals as goal

pub returns-clause-sound : goal.returns-clause-sound
returns-clause-sound c = sound_edits

pub returns-clause-covered : goal.returns-clause-covered
returns-clause-covered c = covered_edits
