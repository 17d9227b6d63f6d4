use Rattle.call_laws.proofs.RefusalLaws.{flags-call, flags-shadow, flags-copy_up, flags-detach}
use Rattle.call_laws.proofs.refusals.only_a_doom_makes_dead.Goals as goal

pub returns-clause-call : goal.returns-clause-call
returns-clause-call c = flags-call

pub returns-clause-shadow : goal.returns-clause-shadow
returns-clause-shadow c = flags-shadow

pub returns-clause-copy_up : goal.returns-clause-copy_up
returns-clause-copy_up c = flags-copy_up

pub returns-clause-detach : goal.returns-clause-detach
returns-clause-detach c = flags-detach
