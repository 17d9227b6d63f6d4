use Rattle.std.proofs.Common.{◌≡◌, take, vec_capacity}
use Rattle.vnode_lock.proofs.lock_list.push_each.Given as goal

abbrev pub invariant-loop-vid : goal.invariant-loop-vid
invariant-loop-vid l =
    (l.into.items ≡ take l.vid-index l.vids) × (vec_capacity l.into ≡ vec_capacity l.initial.into)
