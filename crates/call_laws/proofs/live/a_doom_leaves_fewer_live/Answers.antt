use Rattle.call_laws.proofs.LiveLaws.{live-doomed}
use Rattle.call_laws.proofs.live.a_doom_leaves_fewer_live.Goals as goal

pub returns : goal.returns
returns c = live-doomed
