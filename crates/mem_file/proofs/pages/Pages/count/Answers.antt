use Rattle.std.proofs.Common.{◌*◌, length, ap, sym, ◌∙◌}
use Rattle.mem_file.proofs.Rows.{length-concat}
use Rattle.mem_file.proofs.pages.Pages.count.Goals as goal

pub returns : goal.returns
returns c =
    ap length (sym c.self.view_is)
    ∙ length-concat 4096 c.self.inside.pages.items c.self.invariant
    ∙ ap (λ n. n * 4096) (sym c.self.inside.pages.ok.0 ∙ sym c.len.ensures)
