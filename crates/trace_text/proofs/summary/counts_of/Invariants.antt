use Rattle.std.proofs.Common.{take}
use Rattle.trace_text.specs.Summary.{AreCounts}
use Rattle.trace_text.proofs.summary.counts_of.Given as goal

-- the counts are those of the entries so far
abbrev pub invariant-loop-entry : goal.invariant-loop-entry
invariant-loop-entry l = AreCounts l.counts (take l.entry-index l.entries)
