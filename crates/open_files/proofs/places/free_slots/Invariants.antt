use Rattle.std.proofs.Common.{◌≡◌, ℕ, ◌==◌, ◌≤◌, nat_lt, cond, length, count_by, vec_capacity}
use Rattle.open_files.proofs.places.free_slots.Given as goal

abbrev pub invariant-loop-slot : goal.invariant-loop-slot
invariant-loop-slot l = (length l.free.items ≡ l.slot) × ((s : ℕ) → count_by (λ x. x == s) l.free.items ≡ cond (nat_lt s l.slot) 1 0) × (l.files ≤ vec_capacity l.free)
