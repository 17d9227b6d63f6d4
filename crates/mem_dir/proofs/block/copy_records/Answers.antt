use Rattle.std.proofs.Common.{◌≡◌, ap, ◌∙◌}
use Rattle.std.specs.FinMap.{insert}
use Rattle.mem_dir.proofs.Listing.{copy_more}
use Rattle.mem_dir.proofs.block.copy_records.Goals as goal

pub loop-name-preserved : goal.loop-name-preserved
loop-name-preserved c =
    let r = c.loop-name-item.result in
    copy_more c.args.records.now c.loop-name.name-index r c.args.names.now c.loop-name.names _ c.loop-name-item.is c.loop-name-test.true c.loop-name.invariant
    (c.in_ok-insert.ensures.ok ∙ ap (λ n. insert c.loop-name.names n r.1) c.in_ok-name.ensures)
