use Rattle.std.proofs.Common.{arith}
use Rattle.vnode_rec.proofs.Links as links
use Rattle.vnode_rec.proofs.chains.Chains.remove.Goals as goal

pub index_mut-requires : goal.index_mut-requires
index_mut-requires c =
    let f = c.self.inside in
    let room = links.next_room f.next.items f.prev.items f.place.items f.slots f.chains c.self.invariant c.self.view_is c.args.slot c.requires.below c.requires.somewhere c.index-before.result.now c.index-before.ensures in
    omega (arith, room)

pub index_mut-requires-2 : goal.index_mut-requires-2
index_mut-requires-2 c =
    let f = c.self.inside in
    let room = links.prev_room f.next.items f.prev.items f.place.items f.slots f.chains c.self.invariant c.self.view_is c.args.slot c.requires.below c.requires.somewhere c.index-after.result.now c.index-after.ensures in
    omega (arith, room)

pub invariant_of-self : goal.invariant_of-self
invariant_of-self c =
    let f = c.self.inside in
    links.taken_out f.next.items f.prev.items f.place.items f.slots f.chains c.self.invariant c.self.view_is c.args.slot c.requires.below c.requires.somewhere c.index-before.result.now c.index-after.result.now c.index-before.ensures c.index-after.ensures
