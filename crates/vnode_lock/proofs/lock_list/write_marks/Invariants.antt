use Rattle.std.proofs.Common.{◌≡◌, ℕ, false, cond, drop, get_or}
use Rattle.vnode_lock.specs.Listed.{has_slot}
use Rattle.vnode_lock.proofs.lock_list.write_marks.Given as goal

abbrev pub invariant-loop-vid : goal.invariant-loop-vid
invariant-loop-vid l =
    (slot : ℕ) → cond (has_slot slot (drop l.vid-index l.vids)) l.mark (get_or l.marks slot false) ≡ cond (has_slot slot l.vids) l.mark (get_or l.initial.marks slot false)
