use Rattle.std.proofs.Common.{◌≡◌, take, drop}
use Rattle.vnode_lock.specs.Listed.{moved}
use Rattle.vnode_lock.proofs.lock_list.replace_each.Given as goal

abbrev pub invariant-loop-vid : goal.invariant-loop-vid
invariant-loop-vid l =
    (take l.vid-index l.vids ≡ moved l.from l.to (take l.vid-index l.initial.vids)) × (drop l.vid-index l.vids ≡ drop l.vid-index l.initial.vids)
