use Rattle.std.proofs.Common.{take, ap, sym, ◌∙◌}
use Rattle.std.specs.FinMap.{empty}
use Rattle.mem_dir.specs.Records.{joined, with_records}
use Rattle.mem_dir.proofs.Listing.{records_append}
use Rattle.mem_dir.proofs.Search.{joined_more}
use Rattle.mem_dir.proofs.blocks.copy.Goals as goal

pub loop-block-preserved : goal.loop-block-preserved
loop-block-preserved c =
    let bs = c.args.blocks.now in
    let i = c.loop-block.block-index in
    let b = c.block-item.result in
    c.in_ok-copy_into.ensures
    ∙ ap (λ x. with_records x b) c.loop-block.invariant
    ∙ sym (records_append empty (joined (take i bs)) b)
    ∙ ap (with_records empty) (joined_more bs i b c.block-item.is c.loop-block-test.true)
