use Rattle.std.proofs.Common.{◌≡◌, ap, ◌∙◌, false}
use Rattle.std.specs.List.{filter_map}
use Rattle.vfs_tree.specs.Visible.{given_name, given_names}
use Rattle.mem_dir.specs.Directory.{listed}
use Rattle.mem_dir.specs.Records.{joined}
use Rattle.mem_dir.proofs.Listing.{ok_more, entries_rising}
use Rattle.mem_dir.proofs.dir.Dir.list.Goals as goal

pub returns : goal.returns
returns c =
    let es = joined c.self.inside.blocks.items in
    let is = entries_rising es c.args.self.now.names c.self.invariant.rising (ap (λ d. d.names) c.self.view_is) in
    ok_more (λ names. names.items ≡ filter_map (listed false) (joined c.deref.result.now)) (λ names. names.items ≡ given_names c.args.self.now.names) c.list.result
    (λ names listed. listed ∙ ap (λ x. filter_map given_name (joined x)) c.deref.ensures.value ∙ ap (filter_map given_name) is) c.list.ensures
