use Rattle.std.proofs.Common.{◌≡◌, ◌++◌, length, map}
use Rattle.vfs_cli.specs.Workers.{line_of}
use Rattle.vfs_cli.proofs.plan.put_lines.Given as goal

abbrev pub invariant-loop-call : goal.invariant-loop-call
invariant-loop-call l = l.fn.lines.items ++ map (line_of l.caller) l.fn.plan ≡ l.lines.items ++ map (line_of l.caller) l.plan

abbrev pub decreases-loop-call : goal.decreases-loop-call
decreases-loop-call l = length l.plan
