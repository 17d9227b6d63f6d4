use Rattle.layer_laws.proofs.NullLaws.{null_mkdir, null_link, null_undelete}
use Rattle.layer_laws.proofs.nulls.an_edit_through_a_null_mount_is_that_of_its_layer.Goals as goal

pub returns-clause-directory : goal.returns-clause-directory
returns-clause-directory c = null_mkdir

pub returns-clause-linked : goal.returns-clause-linked
returns-clause-linked c = null_link

pub returns-clause-cleared : goal.returns-clause-cleared
returns-clause-cleared c = null_undelete
