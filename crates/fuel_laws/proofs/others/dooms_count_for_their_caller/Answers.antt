use Rattle.fuel_laws.proofs.DoomLaws.{doomer_own, doomer_ended, doomer_call, doomer_inner}
use Rattle.fuel_laws.proofs.others.dooms_count_for_their_caller.Goals as goal

pub returns-clause-doom : goal.returns-clause-doom
returns-clause-doom c = doomer_own

pub returns-clause-ended : goal.returns-clause-ended
returns-clause-ended c = doomer_ended

pub returns-clause-call : goal.returns-clause-call
returns-clause-call c = doomer_call

pub returns-clause-inner : goal.returns-clause-inner
returns-clause-inner c = doomer_inner
