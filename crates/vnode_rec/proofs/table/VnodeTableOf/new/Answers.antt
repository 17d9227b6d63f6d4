use Rattle.std.proofs.Common.{◌≡◌, ◌≤◌, ◌∙◌, sym, ap, arith, length}
use Rattle.free_list.specs.Queue.{Queue}
use Rattle.op_vector.specs.Rack.{boxes_of}
use Rattle.vnode_rec.proofs.Fresh.{by_kinds, fresh_sound, nothing_matched}
use Rattle.vnode_rec.proofs.table.VnodeTableOf.new.Goals as goal

pub invariant_of-result : goal.invariant_of-result
invariant_of-result g c =
    let n = c.in_ok-made.ensures.len in
    let hs = c.in_ok-holders.ensures.slots in
    let hl = c.in_ok-holders.ensures.len in
    let es = c.in_ok-empty.ensures.slots in
    let cs = c.in_ok-chains.ensures.slots in
    let count_is = c.in_ok-chains.ensures.chains in
    let nine = c.requires.nine in
    let fits = c.ranges.slots in
    let fs : c.in_ok-free.free.slots ≡ c.args.slots = ap (λ (q : Queue). q.slots) c.in_ok-free.ensures in
    fresh_sound c.in_ok-made.made.items c.in_ok-made.ensures.empty c.in_ok-holders.holders c.in_ok-free.free c.in_ok-empty.empty c.in_ok-chains.chains.place c.in_ok-chains.chains.slots c.in_ok-chains.chains.chains c.args.rack
    (hs ∙ sym n) (fs ∙ sym n) (es ∙ sym n) (cs ∙ sym n) (c.in_ok-chains.ensures.len ∙ sym n)
    (omega (arith, hl, nine, n)) (omega (arith, n, fits)) (omega (arith, count_is))
    c.in_ok-holders.ensures.empty (ap (λ (q : Queue). q.queue) c.in_ok-free.ensures) (λ s h. c.in_ok-empty.ensures.all s (omega (arith, h, n))) (λ s h. c.in_ok-chains.ensures.nowhere s (omega (arith, h, n)) ∙ sym count_is)
    (by_kinds (λ k. length c.in_ok-made.made.items ≤ length (boxes_of k c.args.rack)) (let a = c.requires.mem in omega (arith, a, n)) (let a = c.requires.null in omega (arith, a, n)) (let a = c.requires.unions in omega (arith, a, n)) (let a = c.requires.dead in omega (arith, a, n))) c.have_room.ensures

pub returns-clause-matched : goal.returns-clause-matched
returns-clause-matched g c = record { rack = c.requires.by_kind; slots = nothing_matched c.in_ok-made.made.items c.in_ok-made.ensures.empty g.B.Vop.vkind }
