use Rattle.plain_calls.proofs.Deciding.{has_memory, held, not_held}
use Rattle.plain_calls.proofs.reading.read.Goals as goal

pub read-requires-clause-room : goal.read-requires-clause-room
read-requires-clause-room c = held c.args.n c.in-Some.room c.args.room c.requires.room c.in-Some.is

pub unreachable-requires : goal.unreachable-requires
unreachable-requires c = not_held c.args.n c.args.room c.requires.room c.in-None.is

pub returns-clause-reserved : goal.returns-clause-reserved
returns-clause-reserved c = has_memory c.read.result c.read.ensures.sure
