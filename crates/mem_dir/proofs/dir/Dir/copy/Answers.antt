use Rattle.std.proofs.Common.{◌≡◌, ap, ◌∙◌}
use Rattle.std.specs.FinMap.{empty}
use Rattle.vfs_tree.specs.Nodes.{Names}
use Rattle.mem_dir.specs.Records.{joined, with_records}
use Rattle.mem_dir.proofs.Listing.{ok_more, records_rising}
use Rattle.mem_dir.proofs.dir.Dir.copy.Goals as goal

pub returns : goal.returns
returns c =
    let es = joined c.self.inside.blocks.items in
    ok_more (λ (names : Names). names ≡ with_records empty (joined c.deref.result.now)) (λ (names : Names). names ≡ c.args.self.now.names) c.copy.result
    (λ names copied. copied ∙ ap (λ x. with_records empty (joined x)) c.deref.ensures.value ∙ records_rising es c.self.invariant.rising ∙ ap (λ d. d.names) c.self.view_is) c.copy.ensures
