use Rattle.std.proofs.Common.{◌≡◌, ◌≤◌, ◌-◌, ◌++◌, take, drop}
use Rattle.mem_file.proofs.pages.Pages.read_into.Given as goal

-- what is done of the bytes was appended
abbrev pub invariant-loop-done : goal.invariant-loop-done
invariant-loop-done l = record {
  within : l.done ≤ l.count;
  bytes : l.into.bytes ≡ l.fn.into.bytes ++ take l.done (drop l.at l.self);
  spare : l.into.spare ≡ l.fn.into.spare - l.done;
}

abbrev pub decreases-loop-done : goal.decreases-loop-done
decreases-loop-done l = l.count - l.done
