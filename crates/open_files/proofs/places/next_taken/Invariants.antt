use Rattle.std.proofs.Common.{◌≡◌, ℕ, ◌<◌, ◌≤◌, None}
use Rattle.std.specs.List.{slice_index_or}
use Rattle.open_files.specs.Rows.{place_of}
use Rattle.open_files.proofs.places.next_taken.Given as goal

abbrev pub invariant-loop-fd : goal.invariant-loop-fd
invariant-loop-fd l = (k : ℕ) → l.from ≤ k → k < l.fd → slice_index_or l.places (place_of l.caller k) None ≡ None
