use Rattle.std.proofs.Common.{◌≡◌, length, All}
use Rattle.vnode_rec.specs.Vnodes.{empty_slot}
use Rattle.vnode_rec.proofs.table.empty_slots.Given as goal

abbrev pub invariant-loop : goal.invariant-loop
invariant-loop g l = (length l.slots.items ≡ l.counter) × All (λ slot. slot ≡ empty_slot 0) l.slots.items
