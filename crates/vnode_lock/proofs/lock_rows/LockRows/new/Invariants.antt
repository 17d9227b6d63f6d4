use Rattle.std.proofs.Common.{◌≡◌, [], replicate}
use Rattle.vnode_lock.proofs.lock_rows.LockRows.new.Given as goal

abbrev pub invariant-loop : goal.invariant-loop
invariant-loop l = l.lists.items ≡ replicate (l.counter) (record { vids = []; slots = l.slots })
