use Rattle.std.proofs.Common.{subst, sym, ap, ◌∙◌, ◌≡◌}
use Rattle.std.specs.Prelude.{Some, None, IfOk}
use Rattle.vfs_tree.specs.Visible.{given_names, names_in}
use Rattle.mem_fs.proofs.Looks.{looked, no_given}
use Rattle.mem_fs.proofs.fs.MemFs.list.Goals as goal

pub returns-in-Some : goal.returns-in-Some
returns-in-Some c = subst (λ o. IfOk c.list.result (λ names. names.items ≡ given_names (names_in o)))
    (sym (looked c.self.inside.nodes c.self.inside.next c.args.self.now c.args.dir (Some _) c.self.view_is c.in-Some.ensures)) c.list.ensures

pub returns-in-None : goal.returns-in-None
returns-in-None c = c.new.ensures.items ∙ sym no_given
    ∙ ap (λ o. given_names (names_in o)) (sym (looked c.self.inside.nodes c.self.inside.next c.args.self.now c.args.dir None c.self.view_is c.in-None.ensures))
