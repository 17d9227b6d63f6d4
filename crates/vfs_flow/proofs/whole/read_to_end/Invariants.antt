use Rattle.std.proofs.Common.{◌-◌, vec_len}
use Rattle.vfs_flow.proofs.Loops.{Reading}
use Rattle.vfs_flow.proofs.whole.read_to_end.Given as goal

abbrev pub invariant-loop-bytes : goal.invariant-loop-bytes
invariant-loop-bytes g l = Reading g.S.Source.left g.S.Source.faults l.limit l.fn.source l.source l.bytes.items

abbrev pub decreases-loop-bytes : goal.decreases-loop-bytes
decreases-loop-bytes g l = l.limit - vec_len l.bytes
