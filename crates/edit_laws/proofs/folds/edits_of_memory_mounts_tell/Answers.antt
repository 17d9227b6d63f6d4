use Rattle.edit_laws.proofs.MemLaws.{mem_tells}
use Rattle.edit_laws.proofs.folds.edits_of_memory_mounts_tell.Goals as goal

pub returns : goal.returns
returns c = mem_tells
