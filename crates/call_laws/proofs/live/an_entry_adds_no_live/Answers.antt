use Rattle.call_laws.proofs.LiveLaws.{live-inner, live-shadow, live-copy_up, live-detach}
use Rattle.call_laws.proofs.live.an_entry_adds_no_live.Goals as goal

pub returns-clause-most : goal.returns-clause-most
returns-clause-most c = live-inner

pub returns-clause-shadow : goal.returns-clause-shadow
returns-clause-shadow c = live-shadow

pub returns-clause-copy_up : goal.returns-clause-copy_up
returns-clause-copy_up c = live-copy_up

pub returns-clause-detach : goal.returns-clause-detach
returns-clause-detach c = live-detach
