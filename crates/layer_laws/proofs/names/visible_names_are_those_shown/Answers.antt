use Rattle.layer_laws.proofs.VisibleLaws.{visible_shown, visible_tree}
use Rattle.layer_laws.proofs.names.visible_names_are_those_shown.Goals as goal

pub returns-clause-place : goal.returns-clause-place
returns-clause-place c = visible_shown

pub returns-clause-tree : goal.returns-clause-tree
returns-clause-tree c = visible_tree
