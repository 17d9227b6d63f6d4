use Rattle.std.proofs.Common.{◌<◌, length, sym, ap, arith, subst}
use Rattle.op_vector.specs.declared.data.VKind.{VKind}
use Rattle.vnode_rec.specs.Holders.{Held, row_in}
use Rattle.vnode_rec.specs.Vnodes.{Table, IsMatched}
use Rattle.vnode_rec.proofs.Held as held
use Rattle.vnode_rec.proofs.table.VnodeTableOf.let_go.Goals as goal

pub pop-vid-requires-clause-there : goal.pop-vid-requires-clause-there
pop-vid-requires-clause-there g c =
    let f = c.self.inside in
    let X : Type 0 = g.row.B.Denot in
    subst (λ (t : Table X). c.args.row < length t.rows) (sym c.self.view_is) c.requires.there

pub pop-vid-requires-clause-some : goal.pop-vid-requires-clause-some
pop-vid-requires-clause-some g c =
    let f = c.self.inside in
    let X : Type 0 = g.row.B.Denot in
    subst (λ (t : Table X). 0 < length (row_in t.rows c.args.row)) (sym c.self.view_is) c.requires.some

pub hold_count-free-requires : goal.hold_count-free-requires
hold_count-free-requires g c =
    let f = c.self.inside in
    let b = c.pop-vid.ensures.below in let e = ap (λ (h : Held). h.slots) c.pop-vid.ensures.others in omega (arith, b, e)

pub queue_if-requires-clause-below : goal.queue_if-requires-clause-below
queue_if-requires-clause-below g c =
    let f = c.self.inside in
    held.gone_below f.slots.items f.holders f.free f.empty f.chains.place f.chains.slots f.chains.chains f.rack c.self.invariant c.self.view_is
    c.args.row c.requires.there c.pop-vid.result c.pop-vid.new.self c.pop-vid.ensures.popped

pub queue_if-requires-clause-absent : goal.queue_if-requires-clause-absent
queue_if-requires-clause-absent g c =
    let f = c.self.inside in
    held.gone_absent f.slots.items f.holders f.free f.empty f.chains.place f.chains.slots f.chains.chains f.rack c.self.invariant c.self.view_is
    c.args.row c.requires.there c.pop-vid.result c.pop-vid.new.self c.pop-vid.ensures.popped

pub invariant_of-self : goal.invariant_of-self
invariant_of-self g c =
    let f = c.self.inside in
    held.gone_sound f.slots.items f.holders f.free f.empty f.chains.place f.chains.slots f.chains.chains f.rack c.self.invariant c.self.view_is
    c.args.row c.requires.there c.pop-vid.result c.pop-vid.new.self c.pop-vid.ensures.popped c.pop-vid.ensures.others c.hold_count-free.result c.hold_count-free.ensures c.queue_if.new.list c.queue_if.ensures

pub returns-clause-after : goal.returns-clause-after
returns-clause-after g c =
    let f = c.self.inside in
    held.gone_row f.slots.items f.holders f.free f.empty f.chains.place f.chains.slots f.chains.chains f.rack c.self.invariant c.self.view_is
    c.args.row c.requires.there c.pop-vid.result c.pop-vid.new.self c.pop-vid.ensures.popped c.pop-vid.ensures.others c.hold_count-free.result c.hold_count-free.ensures c.queue_if.new.list c.queue_if.ensures

pub returns-clause-matched : goal.returns-clause-matched
returns-clause-matched g c =
    let f = c.self.inside in
    let vkind : g.row.B.Denot → VKind = g.B.Vop.vkind in
    subst (λ (t : Table g.row.B.Denot). IsMatched vkind t → IsMatched vkind (record { slots = f.slots.items; rows = c.pop-vid.new.self.rows; uses = c.pop-vid.new.self.uses; free = c.queue_if.new.list; rack = f.rack })) c.self.view_is (λ m. record { rack = m.rack; slots = m.slots })
