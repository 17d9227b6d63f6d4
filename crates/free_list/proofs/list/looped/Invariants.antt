use Rattle.free_list.specs.Links.{AreLoopedTo}
use Rattle.free_list.proofs.list.looped.Given as goal

abbrev pub invariant-loop-slot : goal.invariant-loop-slot
invariant-loop-slot l = AreLoopedTo l.links.items l.slot
