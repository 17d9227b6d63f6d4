use Rattle.std.proofs.Common.{refl, arith}
use Rattle.vnode_rec.proofs.Swapping as swapping
use Rattle.vnode_rec.proofs.table.VnodeTableOf.swap_vector.Goals as goal

pub unreachable-requires : goal.unreachable-requires
unreachable-requires g c =
    let f = c.self.inside in
    swapping.dead_left g.B.Vop.vkind f.slots.items f.holders f.free f.empty f.chains.place f.chains.slots f.chains.chains f.rack c.self.invariant c.self.view_is c.requires.matched c.args.vid c.requires.live (c.in_default.ensures.none.0 refl)

pub discard-requires : goal.discard-requires
discard-requires g c =
    let f = c.self.inside in
    swapping.linked_below g.B.Vop.vkind f.slots.items f.holders f.free f.empty f.chains.place f.chains.slots f.chains.chains f.rack c.self.invariant c.self.view_is c.requires.matched c.args.vid c.requires.live

pub index_mut-slot-requires : goal.index_mut-slot-requires
index_mut-slot-requires g c =
    let f = c.self.inside in
    let below = swapping.below g.B.Vop.vkind f.slots.items f.holders f.free f.empty f.chains.place f.chains.slots f.chains.chains f.rack c.self.invariant c.self.view_is c.requires.matched c.args.vid c.requires.live in
    let ok = f.slots.ok in omega (arith, below, ok)

pub unreachable-requires-in_default-replace : goal.unreachable-requires-in_default-replace
unreachable-requires-in_default-replace g c =
    let f = c.self.inside in
    let p = c.index_mut-slot in
    swapping.has_box g.B.Vop.vkind f.slots.items f.holders f.free f.empty f.chains.place f.chains.slots f.chains.chains f.rack c.self.invariant c.self.view_is c.requires.matched c.args.vid c.requires.live p.result.now p.ensures.value c.in_default-replace.ensures.value

pub give-requires : goal.give-requires
give-requires g c =
    let f = c.self.inside in
    let p = c.index_mut-slot in
    let took = c.in-Some.ensures in
    swapping.room g.B.Vop.vkind f.slots.items f.holders f.free f.empty f.chains.place f.chains.slots f.chains.chains f.rack c.self.invariant c.self.view_is c.requires.matched c.args.vid c.requires.live p.result.now p.ensures.value
    c.take.new.self c.in-Some.dead took.taken took.others took.by_kind c.in-Some-replace.old c.in-Some-replace.ensures.value

pub invariant_of-self : goal.invariant_of-self
invariant_of-self g c =
    let f = c.self.inside in
    let p = c.index_mut-slot in
    let took = c.in-Some.ensures in
    rw (c.discard.ensures.slots, c.discard.ensures.chains)
    (swapping.new_sound g.B.Vop.vkind f.slots.items f.holders f.free f.empty f.chains.place f.chains.slots f.chains.chains f.rack c.self.invariant c.self.view_is c.requires.matched c.args.vid c.requires.live p.result.now p.ensures.value
    c.take.new.self c.in-Some.dead took.taken took.others took.by_kind c.in-Some-replace.old c.in-Some-replace.ensures.value c.give.new.self c.give.ensures.given c.replace.new.dest c.replace.ensures.after c.discard.new.self.place c.discard.ensures.place)

pub returns-clause-matched : goal.returns-clause-matched
returns-clause-matched g c =
    let f = c.self.inside in
    let p = c.index_mut-slot in
    let took = c.in-Some.ensures in
    swapping.new_matched g.B.Vop.vkind f.slots.items f.holders f.free f.empty f.chains.place f.chains.slots f.chains.chains f.rack c.self.invariant c.self.view_is c.requires.matched c.args.vid c.requires.live p.result.now p.ensures.value
    c.take.new.self c.in-Some.dead took.taken took.others took.by_kind c.in-Some-replace.old c.in-Some-replace.ensures.value c.give.new.self c.give.ensures.given c.replace.new.dest c.replace.ensures.after c.discard.new.self.place c.discard.ensures.place c.give.ensures.by_kind

pub returns-clause-swapped : goal.returns-clause-swapped
returns-clause-swapped g c =
    let f = c.self.inside in
    let p = c.index_mut-slot in
    let took = c.in-Some.ensures in
    swapping.has_swapped g.B.Vop.vkind f.slots.items f.holders f.free f.empty f.chains.place f.chains.slots f.chains.chains f.rack c.self.invariant c.self.view_is c.requires.matched c.args.vid c.requires.live p.result.now p.ensures.value
    c.take.new.self c.in-Some.dead took.taken took.others took.by_kind c.in-Some-replace.old c.in-Some-replace.ensures.value c.give.new.self c.give.ensures.given c.replace.new.dest c.replace.ensures.after
