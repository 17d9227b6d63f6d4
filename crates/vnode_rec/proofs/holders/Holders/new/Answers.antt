use Rattle.std.proofs.Common.{◌∙◌, sym, arith}
use Rattle.vnode_rec.proofs.Counts.{nothing_counted}
use Rattle.vnode_rec.proofs.holders.Holders.new.Goals as goal

pub invariant_of-result : goal.invariant_of-result
invariant_of-result c =
    let rl = c.in_ok-rows.ensures.len in
    let ul = c.in_ok-use_counts.ensures.len in
    let hl = c.in_ok-hold_counts.ensures.len in
    let few = c.requires.few in
    let small = c.requires.small in
    nothing_counted c.in_ok-rows.rows.items c.args.uses c.in_ok-use_counts.use_counts.items c.in_ok-hold_counts.hold_counts.items
    (ul ∙ sym hl) (omega (arith, rl, hl, few)) (omega (arith, hl, small)) (omega (arith, rl))
    c.in_ok-rows.ensures.empty c.in_ok-use_counts.ensures.zero c.in_ok-hold_counts.ensures.zero
