use Rattle.std.proofs.Common.{◌≡◌, ◌<◌, ◌++◌, [], suc, length, get_or, take, drop, ap, sym, ◌∙◌, arith}
use Rattle.std.specs.List.{remove}
use Rattle.std.proofs.lemmas.List.{get_or_default}
use Rattle.mem_dir.specs.Records.{joined}
use Rattle.mem_dir.proofs.Search.{joined-set, joined-remove, remove_only}
use Rattle.mem_dir.proofs.blocks.remove.Goals as goal

pub returns-then-len-eq1-clause-joined : goal.returns-then-len-eq1-clause-joined
returns-then-len-eq1-clause-joined c =
    let bs = c.args.blocks.now.items in
    let i = c.args.place.block in
    let lt : i < length bs = omega (arith, c.args.blocks.now.ok.0, c.requires.within) in
    let read : c.index.result.now ≡ get_or bs i [] = c.index.ensures ∙ get_or_default bs i c.index.result.now [] lt in
    let one : length (get_or bs i []) ≡ 1 = ap length (sym read) ∙ sym c.len.ensures.len ∙ c.if-len-eq1.true in
    ap joined c.remove.ensures.items
    ∙ joined-remove bs i
    ∙ ap (λ q. joined (take i bs) ++ (q ++ joined (drop (suc i) bs))) (sym (remove_only (get_or bs i []) c.args.place.at one c.requires.at))

pub returns-else-len-eq1-clause-joined : goal.returns-else-len-eq1-clause-joined
returns-else-len-eq1-clause-joined c =
    let bs = c.args.blocks.now.items in
    let i = c.args.place.block in
    let lt : i < length bs = omega (arith, c.args.blocks.now.ok.0, c.requires.within) in
    let read = c.index_mut.ensures.value ∙ get_or_default bs i c.index_mut.result.now [] lt in
    joined-set bs i c.remove-else-len-eq1.new.self lt
    ∙ ap (λ q. joined (take i bs) ++ (q ++ joined (drop (suc i) bs)))
    (c.remove-else-len-eq1.ensures ∙ ap (λ b. remove b c.args.place.at) read)
