use Rattle.std.proofs.Common.{length, ◌-◌}
use Rattle.vfs_flow.proofs.Loops.{Writing}
use Rattle.vfs_flow.proofs.whole.write_all.Given as goal

abbrev pub invariant-loop-at : goal.invariant-loop-at
invariant-loop-at g l = Writing g.K.Sink.written g.K.Sink.faults l.fn.sink l.sink l.text l.at

abbrev pub decreases-loop-at : goal.decreases-loop-at
decreases-loop-at g l = length l.text - l.at
