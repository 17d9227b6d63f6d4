use Rattle.std.proofs.Common.{◌≡◌, ◌+◌, ◌∷◌, ◌++◌, [], length, arith, ap, sym, ◌∙◌}
use Rattle.std.proofs.lemmas.List.{get_or-set_same}
use Rattle.mem_dir.specs.Records.{joined}
use Rattle.mem_dir.proofs.Last.{joined_popped, joined_shorter, if_more}
use Rattle.mem_dir.proofs.blocks.pop_last.Goals as goal

pub returns-then-len-eq0-clause-last : goal.returns-then-len-eq0-clause-last
returns-then-len-eq0-clause-last c =
    let bs = c.args.blocks.now.items in
    let i = c.in_ok-last.last in
    let now = c.pop-record.new.self in
    let end : i + 1 ≡ length bs = grind arith in
    let read : c.index.result.now ≡ now = c.index.ensures ∙ get_or-set_same bs i now c.index.result.now (omega (arith, end)) in
    let empty : length now ≡ 0 = ap length (sym read) ∙ sym c.len-2.ensures.len ∙ c.if-len-eq0.true in
    if_more c.pop-record.result c.pop-record.ensures.last (λ r is.
    joined_popped bs i c.index_mut.result.now now r end c.index_mut.ensures.value is
    ∙ ap (λ x. x ++ r ∷ []) (joined_shorter bs i _ now end (grind arith) empty ∙ ap joined (sym c.pop.ensures.rest)))

pub returns-else-len-eq0-clause-last : goal.returns-else-len-eq0-clause-last
returns-else-len-eq0-clause-last c =
    let bs = c.args.blocks.now.items in
    let i = c.in_ok-last.last in
    let end : i + 1 ≡ length bs = grind arith in
    if_more c.pop-record.result c.pop-record.ensures.last (λ r is. joined_popped bs i c.index_mut.result.now c.pop-record.new.self r end c.index_mut.ensures.value is)
