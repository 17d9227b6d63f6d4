use Rattle.std.proofs.Common.{◌<◌, length, get_or, sym, arith}
use Rattle.op_vector.specs.declared.data.Vid.{Vid}
use Rattle.vnode_lock.proofs.Marks.{step_replaced, slot_replaced, slot_kept}
use Rattle.vnode_lock.proofs.lock_list.replace_each.Goals as goal
use Rattle.vnode_lock.proofs.lock_list.replace_each.Goals.{then-vid-from, else-vid-from}

pub loop-vid-preserved : goal.loop-vid-preserved
loop-vid-preserved c =
    let none : Vid = record { slot = 0; generation = 0 } in
    let within : c.loop-vid.vid-index < length c.loop-vid.vids = omega arith in
    let here = get_or c.loop-vid.vids c.loop-vid.vid-index none in
    elim c.if-vid-from.branch [
      | then-vid-from w ↦ rw w.vids-is (step_replaced c.args.from c.args.to c.loop-vid.vids c.args.vids.now c.loop-vid.vid-index none c.args.to within c.loop-vid.invariant.0 c.loop-vid.invariant.1 (sym (slot_replaced c.args.from c.args.to here w.if-vid-from.true)))
      | else-vid-from w ↦ rw w.vids-is (step_replaced c.args.from c.args.to c.loop-vid.vids c.args.vids.now c.loop-vid.vid-index none here within c.loop-vid.invariant.0 c.loop-vid.invariant.1 (sym (slot_kept c.args.from c.args.to here w.if-vid-from.false)))
    ]
