use Rattle.std.proofs.Common.{◌≡◌}
use Rattle.open_files.proofs.tests.opens_in_a_row.Given as goal

abbrev pub invariant-loop-fd : goal.invariant-loop-fd
invariant-loop-fd l = l.table.callers ≡ 2
