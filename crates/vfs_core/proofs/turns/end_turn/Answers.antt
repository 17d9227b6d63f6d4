use Rattle.vfs_core.proofs.SeatLaws.{gives_held, gives_later, gives_others, gives_same}
use Rattle.vfs_core.proofs.turns.end_turn.Goals as goal

pub leave-requires-clause-holds : goal.leave-requires-clause-holds
leave-requires-clause-holds c = gives_held c.args.lock.now.fixed c.args.pass.now c.args.kern c.requires.once

pub leave-requires-clause-later : goal.leave-requires-clause-later
leave-requires-clause-later c = gives_later c.args.lock.now.fixed c.args.pass.now c.args.kern c.requires.once

pub leave-requires-clause-same : goal.leave-requires-clause-same
leave-requires-clause-same c = gives_same c.args.lock.now.fixed c.args.pass.now c.args.kern c.requires.once

pub leave-requires-clause-others : goal.leave-requires-clause-others
leave-requires-clause-others c = gives_others c.args.lock.now.fixed c.args.pass.now c.args.kern c.requires.once
