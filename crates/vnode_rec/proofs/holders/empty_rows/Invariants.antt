use Rattle.std.proofs.Common.{◌≡◌, length, All, []}
use Rattle.vnode_rec.proofs.holders.empty_rows.Given as goal

abbrev pub invariant-loop : goal.invariant-loop
invariant-loop l = (length l.rows.items ≡ l.counter) × All (λ row. row ≡ []) l.rows.items
