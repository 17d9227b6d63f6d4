use Rattle.free_list.specs.Links.{AreLoopedTo}
use Rattle.vnode_rec.proofs.chains.looped.Given as goal

abbrev pub invariant-loop-i : goal.invariant-loop-i
invariant-loop-i l = AreLoopedTo l.links.items l.i
