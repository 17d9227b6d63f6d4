use Rattle.std.proofs.Common.{◌∙◌, ap}
use Rattle.free_list.specs.Queue.{Queue, member}
use Rattle.vnode_rec.proofs.Fresh.{one_more}
use Rattle.vnode_rec.proofs.table.all_slots.Goals as goal

pub loop-slot-preserved : goal.loop-slot-preserved
loop-slot-preserved c = (
  ap (λ (q : Queue). q.slots) c.push_back.ensures ∙ c.loop-slot.invariant.0,
  λ s. ap (λ (q : Queue). member s q.queue) c.push_back.ensures ∙ one_more c.loop-slot.list.queue c.loop-slot.slot c.loop-slot.invariant.1 s,
)
