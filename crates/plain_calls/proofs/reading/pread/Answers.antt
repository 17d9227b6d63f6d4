use Rattle.plain_calls.proofs.Deciding.{has_memory, held, not_held}
use Rattle.plain_calls.proofs.reading.pread.Goals as goal

pub pread-requires : goal.pread-requires
pread-requires c = held c.args.n c.in-Some.room c.args.room c.requires c.in-Some.is

pub unreachable-requires : goal.unreachable-requires
unreachable-requires c = not_held c.args.n c.args.room c.requires c.in-None.is

pub returns-clause-reserved : goal.returns-clause-reserved
returns-clause-reserved c = has_memory c.pread.result c.pread.ensures.sure
