use Rattle.vfs_cli.proofs.PlanLaws.{IsDealt}
use Rattle.vfs_cli.proofs.plan.plans_of.Given as goal

abbrev pub invariant-loop-line : goal.invariant-loop-line
invariant-loop-line l = IsDealt l.fn.callers l.plans.items l.fn.lines.items l.line-iterator.rest.items
