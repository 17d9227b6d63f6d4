use Rattle.std.proofs.Common.{◌≡◌, ◌≤◌, ◌++◌}
use Rattle.trace_text.specs.Node.{runs_text}
use Rattle.trace_text.proofs.Runs.{rest_text}
use Rattle.trace_text.proofs.node.put_runs.Given as goal

-- what is written, and after it the runs that are left, make the text
abbrev pub invariant-loop-i : goal.invariant-loop-i
invariant-loop-i l = (l.start ≤ l.i) × (l.out.items ++ rest_text l.bytes l.start l.i ≡ l.fn.out.items ++ runs_text l.bytes)
