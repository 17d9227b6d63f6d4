use Rattle.std.proofs.Common.{◌++◌, take, ap, sym, ◌∙◌}
use Rattle.std.specs.List.{filter_map}
use Rattle.std.proofs.lemmas.List.Elements.{filter_map-append}
use Rattle.mem_dir.specs.Directory.{listed}
use Rattle.mem_dir.specs.Records.{joined}
use Rattle.mem_dir.proofs.Search.{joined_more}
use Rattle.mem_dir.proofs.blocks.list.Goals as goal

pub loop-block-preserved : goal.loop-block-preserved
loop-block-preserved c =
    let bs = c.args.blocks.now in
    let i = c.loop-block.block-index in
    let b = c.block-item.result in
    c.in_ok-list_into.ensures
    ∙ ap (λ x. x ++ filter_map (listed c.args.white) b) c.loop-block.invariant
    ∙ sym (filter_map-append (listed c.args.white) (joined (take i bs)) b)
    ∙ ap (filter_map (listed c.args.white)) (joined_more bs i b c.block-item.is c.loop-block-test.true)
