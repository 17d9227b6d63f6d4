use Rattle.layer_laws.proofs.UnionLaws.{copy_dir, copy_root}
use Rattle.layer_laws.proofs.unions.a_copy_changes_nothing_shown.Goals as goal

pub returns-clause-root : goal.returns-clause-root
returns-clause-root c = copy_root

pub returns-clause-directory : goal.returns-clause-directory
returns-clause-directory c = copy_dir
