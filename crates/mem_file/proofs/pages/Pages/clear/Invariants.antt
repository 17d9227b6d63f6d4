use Rattle.std.proofs.Common.{◌≡◌, ◌≤◌, ◌-◌, replicate}
use Rattle.mem_file.specs.Paste.{paste}
use Rattle.mem_file.proofs.pages.Pages.clear.Given as goal

-- what is done of the zeros stands there
abbrev pub invariant-loop-done : goal.invariant-loop-done
invariant-loop-done l = record { within : l.done ≤ l.count; put : l.self ≡ paste l.fn.self l.at (replicate l.done 0) }

abbrev pub decreases-loop-done : goal.decreases-loop-done
decreases-loop-done l = l.count - l.done
