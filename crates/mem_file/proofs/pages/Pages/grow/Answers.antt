use Rattle.std.proofs.Common.{◌++◌, ap, ◌∙◌}
use Rattle.std.specs.List.{concat}
use Rattle.mem_file.proofs.Rows.{concat-push}
use Rattle.mem_file.proofs.pages.Pages.grow.Goals as goal

pub returns-clause-ok : goal.returns-clause-ok
returns-clause-ok c =
    ap concat c.in_ok-push.ensures.items
    ∙ concat-push c.self.inside.pages.items c.in_ok-page.page
    ∙ ap (λ x. x ++ c.in_ok-page.page) c.self.view_is
    ∙ ap (λ x. c.args.self.now ++ x) c.in_ok-page.ensures
