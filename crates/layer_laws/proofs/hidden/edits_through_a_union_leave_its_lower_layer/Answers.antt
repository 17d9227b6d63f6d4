use Rattle.layer_laws.proofs.HiddenLaws.{edit_leaves, shadow_leaves, copy_leaves, lower_uncopied}
use Rattle.layer_laws.proofs.hidden.edits_through_a_union_leave_its_lower_layer.Goals as goal

pub returns-clause-edit : goal.returns-clause-edit
returns-clause-edit c = edit_leaves

pub returns-clause-shadow : goal.returns-clause-shadow
returns-clause-shadow c = shadow_leaves

pub returns-clause-copy_up : goal.returns-clause-copy_up
returns-clause-copy_up c = copy_leaves

pub returns-clause-lower : goal.returns-clause-lower
returns-clause-lower c = lower_uncopied
