use Rattle.std.proofs.Common.{◌≡◌, ◌<◌, ◌++◌, [], suc, length, get_or, take, drop, ap, sym, ◌∙◌, arith}
use Rattle.std.specs.List.{insert}
use Rattle.std.proofs.lemmas.List.{get_or_default}
use Rattle.mem_dir.specs.Records.{joined}
use Rattle.mem_dir.proofs.Search.{joined-set}
use Rattle.mem_dir.proofs.blocks.insert.Goals as goal

pub returns-else-is_full-clause-joined : goal.returns-else-is_full-clause-joined
returns-else-is_full-clause-joined c =
    let bs = c.args.blocks.now.items in
    let i = c.args.place.block in
    let lt : i < length bs = omega (arith, c.args.blocks.now.ok.0, c.requires.within) in
    let read = c.index_mut-else-is_full.ensures.value ∙ get_or_default bs i c.index_mut-else-is_full.result.now [] lt in
    joined-set bs i c.insert-else-is_full.new.self lt
    ∙ ap (λ q. joined (take i bs) ++ (q ++ joined (drop (suc i) bs)))
    (c.insert-else-is_full.ensures ∙ ap (λ b. insert b c.args.place.at (c.args.name, c.args.entry)) read)
