use Rattle.std.proofs.Common.{arith}
use Rattle.vnode_rec.proofs.Reclaiming as reclaiming
use Rattle.vnode_rec.proofs.table.VnodeTableOf.reclaim.Goals as goal

pub remove-requires : goal.remove-requires
remove-requires g c =
    let f = c.self.inside in
    reclaiming.queued g.B.Vop.vkind f.slots.items f.holders f.free f.empty f.chains.place f.chains.slots f.chains.chains f.rack c.self.invariant c.self.view_is c.requires.matched c.args.slot c.requires.below c.requires.listed c.requires.low

pub push_back-requires-clause-below : goal.push_back-requires-clause-below
push_back-requires-clause-below g c =
    let f = c.self.inside in
    reclaiming.empty_below g.B.Vop.vkind f.slots.items f.holders f.free f.empty f.chains.place f.chains.slots f.chains.chains f.rack c.self.invariant c.self.view_is c.requires.matched c.args.slot c.requires.below c.requires.listed c.requires.low

pub push_back-requires-clause-absent : goal.push_back-requires-clause-absent
push_back-requires-clause-absent g c =
    let f = c.self.inside in
    reclaiming.not_yet_empty g.B.Vop.vkind f.slots.items f.holders f.free f.empty f.chains.place f.chains.slots f.chains.chains f.rack c.self.invariant c.self.view_is c.requires.matched c.args.slot c.requires.below c.requires.listed c.requires.low

pub discard-requires : goal.discard-requires
discard-requires g c =
    let f = c.self.inside in
    reclaiming.linked_below g.B.Vop.vkind f.slots.items f.holders f.free f.empty f.chains.place f.chains.slots f.chains.chains f.rack c.self.invariant c.self.view_is c.requires.matched c.args.slot c.requires.below c.requires.listed c.requires.low

pub index_mut-place-requires : goal.index_mut-place-requires
index_mut-place-requires g c =
    let f = c.self.inside in
    let below = reclaiming.below g.B.Vop.vkind f.slots.items f.holders f.free f.empty f.chains.place f.chains.slots f.chains.chains f.rack c.self.invariant c.self.view_is c.requires.matched c.args.slot c.requires.below c.requires.listed c.requires.low in
    let ok = f.slots.ok in omega (arith, below, ok)

pub unreachable-requires : goal.unreachable-requires
unreachable-requires g c =
    let f = c.self.inside in
    let p = c.index_mut-place in
    reclaiming.has_box g.B.Vop.vkind f.slots.items f.holders f.free f.empty f.chains.place f.chains.slots f.chains.chains f.rack c.self.invariant c.self.view_is c.requires.matched c.args.slot c.requires.below c.requires.listed c.requires.low p.result.now p.ensures.value c.in_default.ensures.value

pub give-requires : goal.give-requires
give-requires g c =
    let f = c.self.inside in
    let p = c.index_mut-place in
    reclaiming.room g.B.Vop.vkind f.slots.items f.holders f.free f.empty f.chains.place f.chains.slots f.chains.chains f.rack c.self.invariant c.self.view_is c.requires.matched c.args.slot c.requires.below c.requires.listed c.requires.low p.result.now p.ensures.value c.in-Some.old c.in-Some.ensures.value

pub invariant_of-self : goal.invariant_of-self
invariant_of-self g c =
    let f = c.self.inside in
    let p = c.index_mut-place in
    rw (c.remove.ensures, c.push_back.ensures, c.discard.ensures.slots, c.discard.ensures.chains)
    (reclaiming.new_sound g.B.Vop.vkind f.slots.items f.holders f.free f.empty f.chains.place f.chains.slots f.chains.chains f.rack c.self.invariant c.self.view_is c.requires.matched c.args.slot c.requires.below c.requires.listed c.requires.low p.result.now p.ensures.value
    c.in-Some.old c.in-Some.ensures.value c.give.new.self c.give.ensures.given c.replace.new.dest c.replace.ensures.after c.discard.new.self.place c.discard.ensures.place)

pub returns-clause-matched : goal.returns-clause-matched
returns-clause-matched g c =
    let f = c.self.inside in
    let p = c.index_mut-place in
    reclaiming.new_matched g.B.Vop.vkind f.slots.items f.holders f.free f.empty f.chains.place f.chains.slots f.chains.chains f.rack c.self.invariant c.self.view_is c.requires.matched c.args.slot c.requires.below c.requires.listed c.requires.low p.result.now p.ensures.value
    c.in-Some.old c.in-Some.ensures.value c.give.new.self c.give.ensures.given c.replace.new.dest c.replace.ensures.after c.discard.new.self.place c.discard.ensures.place c.give.ensures.by_kind c.remove.new.self

pub returns-clause-emptied : goal.returns-clause-emptied
returns-clause-emptied g c =
    let f = c.self.inside in
    let p = c.index_mut-place in
    reclaiming.has_emptied g.B.Vop.vkind f.slots.items f.holders f.free f.empty f.chains.place f.chains.slots f.chains.chains f.rack c.self.invariant c.self.view_is c.requires.matched c.args.slot c.requires.below c.requires.listed c.requires.low p.result.now p.ensures.value
    c.in-Some.old c.in-Some.ensures.value c.give.new.self c.give.ensures.given c.replace.new.dest c.replace.ensures.after c.remove.new.self c.remove.ensures
