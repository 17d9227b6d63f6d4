use Rattle.vfs_tree.specs.Nodes.{AreBelow}
use Rattle.mem_fs.proofs.hundred_edits.edits.Given as goal

abbrev pub invariant-loop-step : goal.invariant-loop-step
invariant-loop-step l = AreBelow l.plain.nodes l.plain.next
