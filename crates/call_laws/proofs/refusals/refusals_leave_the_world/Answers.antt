use Rattle.call_laws.proofs.RefusalLaws.{failed_row, no_memory_entry, failed_answer}
use Rattle.call_laws.proofs.refusals.refusals_leave_the_world.Goals as goal

pub returns-clause-refused : goal.returns-clause-refused
returns-clause-refused c = failed_row

pub returns-clause-no_memory : goal.returns-clause-no_memory
returns-clause-no_memory c = no_memory_entry

pub returns-clause-failed : goal.returns-clause-failed
returns-clause-failed c = failed_answer
