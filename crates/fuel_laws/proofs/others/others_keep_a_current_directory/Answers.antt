use Rattle.fuel_laws.proofs.OthersLaws.{others_call, others_shadow, others_copy_up, others_detach}
use Rattle.fuel_laws.proofs.others.others_keep_a_current_directory.Goals as goal

pub returns-clause-call : goal.returns-clause-call
returns-clause-call c = others_call

pub returns-clause-shadow : goal.returns-clause-shadow
returns-clause-shadow c = others_shadow

pub returns-clause-copy_up : goal.returns-clause-copy_up
returns-clause-copy_up c = others_copy_up

pub returns-clause-detach : goal.returns-clause-detach
returns-clause-detach c = others_detach
