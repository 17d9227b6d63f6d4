use Rattle.vfs_cli.proofs.PlanLaws.{IsListed}
use Rattle.vfs_cli.proofs.plan.lines_of.Given as goal

abbrev pub invariant-loop-plan : goal.invariant-loop-plan
invariant-loop-plan l = IsListed l.fn.plans.items l.plan-iterator.rest.items l.caller l.lines.items
