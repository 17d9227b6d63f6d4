use Rattle.std.proofs.Common.{ap, ◌∙◌}
use Rattle.std.specs.List.{list_any}
use Rattle.mem_dir.specs.Records.{joined, gives_some}
use Rattle.mem_dir.proofs.Last.{gives_joined, gives_rising}
use Rattle.mem_dir.proofs.dir.Dir.gives_some.Goals as goal

pub returns : goal.returns
returns c =
    let bs = c.self.inside.blocks.items in
    c.gives_some.ensures ∙ ap (list_any gives_some) c.deref.ensures.value ∙ gives_joined bs
    ∙ gives_rising (joined bs) c.args.self.now.names c.self.invariant.rising (ap (λ d. d.names) c.self.view_is)
