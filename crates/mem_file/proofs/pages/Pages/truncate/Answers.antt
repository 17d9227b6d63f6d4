use Rattle.std.proofs.Common.{◌≤◌, ◌*◌, length, take, ap, ◌∙◌, arith}
use Rattle.std.specs.List.{concat}
use Rattle.mem_file.proofs.Rows.{length-concat, concat-take}
use Rattle.mem_file.proofs.pages.Pages.truncate.Goals as goal

pub returns : goal.returns
returns c =
    let items = c.self.inside.pages.items in
    let within : c.args.count ≤ length items = omega (arith, ap length c.self.view_is, length-concat 4096 items c.self.invariant, c.requires) in
    ap concat c.truncate.ensures.items
    ∙ concat-take 4096 items c.args.count c.self.invariant within
    ∙ ap (take (c.args.count * 4096)) c.self.view_is
