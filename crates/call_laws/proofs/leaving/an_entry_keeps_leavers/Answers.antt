use Rattle.call_laws.proofs.LeavingLaws.{leaving-inner, leaving_own, leaving-shadow, leaving-copy_up, leaving-doom}
use Rattle.call_laws.proofs.leaving.an_entry_keeps_leavers.Goals as goal

pub returns-clause-others : goal.returns-clause-others
returns-clause-others c = leaving-inner

pub returns-clause-own : goal.returns-clause-own
returns-clause-own c = leaving_own

pub returns-clause-shadow : goal.returns-clause-shadow
returns-clause-shadow c = leaving-shadow

pub returns-clause-copy_up : goal.returns-clause-copy_up
returns-clause-copy_up c = leaving-copy_up

pub returns-clause-doom : goal.returns-clause-doom
returns-clause-doom c = leaving-doom
