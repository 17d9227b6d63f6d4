use Rattle.need_laws.proofs.FindLaws.{place_found, bare_found, parent_found, dir_found, child_found}
use Rattle.need_laws.proofs.finding.a_path_finds_what_is_uncut.Goals as goal

pub returns-clause-place : goal.returns-clause-place
returns-clause-place c = place_found

pub returns-clause-bare : goal.returns-clause-bare
returns-clause-bare c = bare_found

pub returns-clause-parent : goal.returns-clause-parent
returns-clause-parent c = parent_found

pub returns-clause-dir : goal.returns-clause-dir
returns-clause-dir c = dir_found

pub returns-clause-child : goal.returns-clause-child
returns-clause-child c = child_found
