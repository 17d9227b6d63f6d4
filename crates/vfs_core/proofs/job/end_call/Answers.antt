use Rattle.std.proofs.Common.{sym, subst}
use Rattle.vfs_core.specs.Stepping.{Steps}
use Rattle.vfs_core.proofs.TurnLaws.{goes_on, ends_now}
use Rattle.vfs_core.proofs.job.end_call.Goals as goal

pub loop-preserved : goal.loop-preserved
loop-preserved c = goes_on c.args.kern.now c.loop.kern c.step.new.self c.args.caller c.loop.invariant c.in-Went.ensures.stepped

pub returns-in-Ended-clause-ended : goal.returns-in-Ended-clause-ended
returns-in-Ended-clause-ended c = ends_now c.args.kern.now c.loop.kern c.step.new.self c.args.caller c.in-Ended.reply c.loop.invariant c.in-Ended.ensures.stepped
