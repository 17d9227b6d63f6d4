use Rattle.layer_laws.proofs.UnionLaws.{shadow_dir, shadow_root}
use Rattle.layer_laws.proofs.unions.a_shadow_directory_changes_nothing_shown.Goals as goal

pub returns-clause-root : goal.returns-clause-root
returns-clause-root c = shadow_root

pub returns-clause-directory : goal.returns-clause-directory
returns-clause-directory c = shadow_dir
