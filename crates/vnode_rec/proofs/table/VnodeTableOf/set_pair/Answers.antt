use Rattle.std.proofs.Common.{arith}
use Rattle.vnode_rec.proofs.Pairs as pairs
use Rattle.vnode_rec.proofs.table.VnodeTableOf.set_pair.Goals as goal

pub index_mut-slot-requires : goal.index_mut-slot-requires
index_mut-slot-requires g c =
    let f = c.self.inside in
    let below = pairs.pair_below f.slots.items f.holders f.free f.empty f.chains.place f.chains.slots f.chains.chains f.rack c.self.invariant c.self.view_is c.args.vid c.requires.current c.args.upper c.args.lower c.args.at c.requires.takes in
    let ok = f.slots.ok in
    omega (arith, below, ok)

pub invariant_of-self : goal.invariant_of-self
invariant_of-self g c =
    let f = c.self.inside in
    let p = c.index_mut-slot in
    pairs.new_sound f.slots.items f.holders f.free f.empty f.chains.place f.chains.slots f.chains.chains f.rack c.self.invariant c.self.view_is c.args.vid c.requires.current c.args.upper c.args.lower c.args.at c.requires.takes p.result.now p.ensures.value c.paired-slot.result c.paired-slot.ensures

pub returns-clause-pair : goal.returns-clause-pair
returns-clause-pair g c =
    let f = c.self.inside in
    let p = c.index_mut-slot in
    pairs.has_pair f.slots.items f.holders f.free f.empty f.chains.place f.chains.slots f.chains.chains f.rack c.self.invariant c.self.view_is c.args.vid c.requires.current c.args.upper c.args.lower c.args.at c.requires.takes p.result.now p.ensures.value c.paired-slot.result c.paired-slot.ensures

pub returns-clause-matched : goal.returns-clause-matched
returns-clause-matched g c =
    let f = c.self.inside in
    let p = c.index_mut-slot in
    pairs.new_matched f.slots.items f.holders f.free f.empty f.chains.place f.chains.slots f.chains.chains f.rack c.self.invariant c.self.view_is c.args.vid c.requires.current c.args.upper c.args.lower c.args.at c.requires.takes p.result.now p.ensures.value c.paired-slot.result c.paired-slot.ensures g.B.Vop.vkind
