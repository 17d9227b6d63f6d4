use Rattle.shown_laws.proofs.MovedBelow.{moved_below}
use Rattle.shown_laws.proofs.moving.a_moved_directory_shows_nothing_below.Goals as goal

pub returns : goal.returns
returns c = moved_below
