use Rattle.open_laws.proofs.CutLaws.{needed_shown}
use Rattle.open_laws.proofs.cut.a_shadow_directory_in_a_cut_union_changes_nothing_shown.Goals as goal

pub returns : goal.returns
returns c = needed_shown
