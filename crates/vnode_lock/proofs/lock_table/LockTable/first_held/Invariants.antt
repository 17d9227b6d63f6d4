use Rattle.std.proofs.Common.{take}
use Rattle.std.specs.List.{All}
use Rattle.vnode_lock.specs.Locks.{IsFree}
use Rattle.vnode_lock.proofs.lock_table.LockTable.first_held.Given as goal

abbrev pub invariant-loop-vid : goal.invariant-loop-vid
invariant-loop-vid l = All (IsFree l.self l.caller l.mode) (take l.vid-index l.vids)
