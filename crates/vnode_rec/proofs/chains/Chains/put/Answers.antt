use Rattle.std.proofs.Common.{arith}
use Rattle.vnode_rec.proofs.Links as links
use Rattle.vnode_rec.proofs.chains.Chains.put.Goals as goal

pub index_mut-requires : goal.index_mut-requires
index_mut-requires c =
    let f = c.self.inside in
    let room = links.last_room f.next.items f.prev.items f.place.items f.slots f.chains c.self.invariant c.self.view_is c.args.slot c.requires.below c.requires.nowhere c.args.chain c.requires.chain c.index-last.result.now c.index-last.ensures in
    omega (arith, room)

pub invariant_of-self : goal.invariant_of-self
invariant_of-self c =
    let f = c.self.inside in
    links.put_at_end f.next.items f.prev.items f.place.items f.slots f.chains c.self.invariant c.self.view_is c.args.slot c.requires.below c.requires.nowhere c.args.chain c.requires.chain c.index-last.result.now c.index-last.ensures
