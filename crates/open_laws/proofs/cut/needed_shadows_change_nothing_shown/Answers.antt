use Rattle.open_laws.proofs.HistoryLaws.{history_shown}
use Rattle.open_laws.proofs.cut.needed_shadows_change_nothing_shown.Goals as goal

pub returns : goal.returns
returns c = history_shown
