use Rattle.std.proofs.Common.{ℕ, ◌≡◌, ltb}
use Rattle.free_list.specs.Queue.{member}
use Rattle.vnode_rec.proofs.table.all_slots.Given as goal

abbrev pub invariant-loop-slot : goal.invariant-loop-slot
invariant-loop-slot l = (l.list.slots ≡ l.slots) × ((s : ℕ) → member s l.list.queue ≡ ltb s l.slot)
