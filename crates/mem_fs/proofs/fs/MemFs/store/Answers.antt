use Rattle.std.proofs.Common.{ap, ◌∙◌}
use Rattle.mem_fs.specs.FileSystem.{FileSystem}
use Rattle.mem_fs.proofs.fs.MemFs.store.Goals as goal

pub returns : goal.returns
returns c = (λ i. record { nodes = c.in_ok-copy.ensures i; next = c.self.inside.next }) ∙ ap (λ (x : FileSystem). x.store) c.self.view_is
