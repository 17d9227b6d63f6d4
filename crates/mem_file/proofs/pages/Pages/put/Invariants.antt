use Rattle.std.proofs.Common.{◌≡◌, ◌≤◌, ◌-◌, take, length}
use Rattle.mem_file.specs.Paste.{paste}
use Rattle.mem_file.proofs.pages.Pages.put.Given as goal

-- what is done of the bytes stands there
abbrev pub invariant-loop-done : goal.invariant-loop-done
invariant-loop-done l = record { within : l.done ≤ length l.bytes; put : l.self ≡ paste l.fn.self l.at (take l.done l.bytes) }

abbrev pub decreases-loop-done : goal.decreases-loop-done
decreases-loop-done l = length l.bytes - l.done
