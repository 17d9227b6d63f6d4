use Rattle.std.proofs.Common.{ap, not}
use Rattle.mem_fs.proofs.Told.{bare_told, told_bare}
use Rattle.mem_fs.proofs.checks.is_bare.Goals as goal

pub returns-clause-bare : goal.returns-clause-bare
returns-clause-bare c = bare_told c.args.fs.now.store c.args.ino _ (ap not c.gives_some.ensures)

pub returns-clause-each : goal.returns-clause-each
returns-clause-each c = told_bare c.args.fs.now.store c.args.ino _ (ap not c.gives_some.ensures)
