use Rattle.std.proofs.Common.{ℕ, ◌≡◌, ◌≤◌, ◌+◌, [], ◌∷◌, length, cond, nat_lt, vec_capacity}
use Rattle.mount_table.specs.Seats.{occurs}
use Rattle.mount_table.proofs.table.MountTable.new.Given as goal

abbrev pub invariant-loop-slot : goal.invariant-loop-slot
invariant-loop-slot l = record {
  once : (slot : ℕ) → occurs slot (0 ∷ []) + occurs slot l.free.items ≡ cond (nat_lt slot l.slot) 1 0;
  count : length l.free.items + 1 ≡ l.slot;
  room : l.most ≤ vec_capacity l.free;
}
