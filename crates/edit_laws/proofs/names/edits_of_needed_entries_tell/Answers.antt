use Rattle.edit_laws.proofs.MadeTells.{shadow_tells, copy_tells}
use Rattle.edit_laws.proofs.names.edits_of_needed_entries_tell.Goals as goal

pub returns-clause-shadow : goal.returns-clause-shadow
returns-clause-shadow c = shadow_tells

pub returns-clause-copy_up : goal.returns-clause-copy_up
returns-clause-copy_up c = copy_tells
