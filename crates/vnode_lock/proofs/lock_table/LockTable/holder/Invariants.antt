use Rattle.std.proofs.Common.{ℕ, ◌≡◌, ◌<◌, false}
use Rattle.vnode_lock.specs.Locks.{conflicts}
use Rattle.vnode_lock.proofs.lock_table.LockTable.holder.Given as goal

abbrev pub invariant-loop-by : goal.invariant-loop-by
invariant-loop-by l = (lower : ℕ) → lower < l.by → conflicts lower l.self l.caller l.mode l.vid ≡ false
