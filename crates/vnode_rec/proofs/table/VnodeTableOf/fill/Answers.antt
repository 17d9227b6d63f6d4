use Rattle.std.proofs.Common.{refl, arith}
use Rattle.std.specs.Option.{option_copied}
use Rattle.vnode_rec.proofs.Filling as filling
use Rattle.vnode_rec.proofs.table.VnodeTableOf.fill.Goals as goal

pub unreachable-requires : goal.unreachable-requires
unreachable-requires g c =
    let f = c.self.inside in
    filling.some_box g.B.Vop.vkind f.slots.items f.holders f.free f.empty f.chains.place f.chains.slots f.chains.chains f.rack c.self.invariant c.self.view_is c.requires.matched c.args.slot c.requires.empty
    c.kind_for.result (c.in_default.ensures.none.0 refl)

pub put-requires-clause-below : goal.put-requires-clause-below
put-requires-clause-below g c =
    let f = c.self.inside in
    filling.linked_below g.B.Vop.vkind f.slots.items f.holders f.free f.empty f.chains.place f.chains.slots f.chains.chains f.rack c.self.invariant c.self.view_is c.requires.matched c.args.slot c.requires.empty

pub put-requires-clause-chain : goal.put-requires-clause-chain
put-requires-clause-chain g c = let h = c.chain_for-chain.ensures.within in let e = c.count.ensures in omega (arith, h, e)

pub put-requires-clause-nowhere : goal.put-requires-clause-nowhere
put-requires-clause-nowhere g c =
    let f = c.self.inside in
    filling.nowhere g.B.Vop.vkind f.slots.items f.holders f.free f.empty f.chains.place f.chains.slots f.chains.chains f.rack c.self.invariant c.self.view_is c.requires.matched c.args.slot c.requires.empty

pub remove-requires : goal.remove-requires
remove-requires g c =
    let f = c.self.inside in
    filling.is_listed g.B.Vop.vkind f.slots.items f.holders f.free f.empty f.chains.place f.chains.slots f.chains.chains f.rack c.self.invariant c.self.view_is c.requires.matched c.args.slot c.requires.empty

pub index_mut-place-requires : goal.index_mut-place-requires
index_mut-place-requires g c =
    let f = c.self.inside in
    let below = filling.below g.B.Vop.vkind f.slots.items f.holders f.free f.empty f.chains.place f.chains.slots f.chains.chains f.rack c.self.invariant c.self.view_is c.requires.matched c.args.slot c.requires.empty in
    let ok = f.slots.ok in omega (arith, below, ok)

pub overflow_add-generation : goal.overflow_add-generation
overflow_add-generation g c =
    let f = c.self.inside in
    let p = c.index_mut-place in
    let low = filling.low g.B.Vop.vkind f.slots.items f.holders f.free f.empty f.chains.place f.chains.slots f.chains.chains f.rack c.self.invariant c.self.view_is c.requires.matched c.args.slot c.requires.empty p.result.now p.ensures.value in
    omega (arith, low)

pub push_back-requires-clause-below : goal.push_back-requires-clause-below
push_back-requires-clause-below g c =
    let f = c.self.inside in
    filling.free_below g.B.Vop.vkind f.slots.items f.holders f.free f.empty f.chains.place f.chains.slots f.chains.chains f.rack c.self.invariant c.self.view_is c.requires.matched c.args.slot c.requires.empty

pub push_back-requires-clause-absent : goal.push_back-requires-clause-absent
push_back-requires-clause-absent g c =
    let f = c.self.inside in
    filling.not_free g.B.Vop.vkind f.slots.items f.holders f.free f.empty f.chains.place f.chains.slots f.chains.chains f.rack c.self.invariant c.self.view_is c.requires.matched c.args.slot c.requires.empty

pub invariant_of-self : goal.invariant_of-self
invariant_of-self g c =
    let f = c.self.inside in
    let p = c.index_mut-place in
    let took = c.in-Some.ensures in
    rw (c.push_back.ensures, c.remove.ensures, c.put.ensures.slots, c.put.ensures.chains)
    (filling.new_sound g.B.Vop.vkind f.slots.items f.holders f.free f.empty f.chains.place f.chains.slots f.chains.chains f.rack c.self.invariant c.self.view_is c.requires.matched c.args.slot c.requires.empty p.result.now p.ensures.value
    c.args.vd c.args.name c.in-Some.vop c.take.new.self c.kind_for.result c.kind_for.ensures took.taken took.others took.by_kind
    c.requires.some c.requires.absent c.put.new.self.place c.chain_for-chain.result c.count.result c.put.ensures.place
    (option_copied c.as_ref.result) c.chain_for-chain.ensures.chain c.as_ref.ensures.value c.count.ensures)

pub returns-clause-matched : goal.returns-clause-matched
returns-clause-matched g c =
    let f = c.self.inside in
    let p = c.index_mut-place in
    let took = c.in-Some.ensures in
    filling.new_matched g.B.Vop.vkind f.slots.items f.holders f.free f.empty f.chains.place f.chains.slots f.chains.chains f.rack c.self.invariant c.self.view_is c.requires.matched c.args.slot c.requires.empty p.result.now p.ensures.value
    c.args.vd c.args.name c.in-Some.vop c.take.new.self c.kind_for.result c.kind_for.ensures took.taken took.others took.by_kind
    c.requires.some c.requires.absent c.put.new.self.place c.chain_for-chain.result c.count.result c.put.ensures.place
    (option_copied c.as_ref.result) c.chain_for-chain.ensures.chain c.as_ref.ensures.value c.count.ensures c.push_back.new.self

pub returns-clause-filled : goal.returns-clause-filled
returns-clause-filled g c =
    let f = c.self.inside in
    let p = c.index_mut-place in
    let took = c.in-Some.ensures in
    filling.has_filled g.B.Vop.vkind f.slots.items f.holders f.free f.empty f.chains.place f.chains.slots f.chains.chains f.rack c.self.invariant c.self.view_is c.requires.matched c.args.slot c.requires.empty p.result.now p.ensures.value
    c.args.vd c.args.name c.in-Some.vop c.take.new.self c.kind_for.result c.kind_for.ensures took.taken took.others took.by_kind c.push_back.new.self c.push_back.ensures

pub returns-clause-found : goal.returns-clause-found
returns-clause-found g c =
    let f = c.self.inside in
    let p = c.index_mut-place in
    filling.found g.B.Vop.vkind f.slots.items f.holders f.free f.empty f.chains.place f.chains.slots f.chains.chains f.rack c.self.invariant c.self.view_is c.requires.matched c.args.slot c.requires.empty p.result.now p.ensures.value
    c.args.vd c.args.name c.in-Some.vop f.holders.rows f.holders.uses c.push_back.new.self c.take.new.self

pub returns-clause-current : goal.returns-clause-current
returns-clause-current g c =
    let f = c.self.inside in
    let p = c.index_mut-place in
    filling.current g.B.Vop.vkind f.slots.items f.holders f.free f.empty f.chains.place f.chains.slots f.chains.chains f.rack c.self.invariant c.self.view_is c.requires.matched c.args.slot c.requires.empty p.result.now p.ensures.value
    c.args.vd c.args.name c.in-Some.vop f.holders.rows f.holders.uses c.push_back.new.self c.take.new.self

pub returns-clause-fresh : goal.returns-clause-fresh
returns-clause-fresh g c =
    let f = c.self.inside in
    let p = c.index_mut-place in
    filling.fresh g.B.Vop.vkind f.slots.items f.holders f.free f.empty f.chains.place f.chains.slots f.chains.chains f.rack c.self.invariant c.self.view_is c.requires.matched c.args.slot c.requires.empty p.result.now p.ensures.value

pub returns-clause-grows : goal.returns-clause-grows
returns-clause-grows g c =
    let f = c.self.inside in
    let p = c.index_mut-place in
    filling.grows g.B.Vop.vkind f.slots.items f.holders f.free f.empty f.chains.place f.chains.slots f.chains.chains f.rack c.self.invariant c.self.view_is c.requires.matched c.args.slot c.requires.empty p.result.now p.ensures.value
    c.args.vd c.args.name c.in-Some.vop c.push_back.new.self c.take.new.self
