use Rattle.std.proofs.Common.{◌≡◌, sym, ◌∙◌, subst}
use Rattle.std.specs.Prelude.{Some}
use Rattle.vfs_tree.specs.Visible.{given_names, names_in}
use Rattle.mem_fs.specs.declared.inode.Content.{Content}
use Rattle.mem_fs.specs.Contents.{shown}
use Rattle.mem_fs.proofs.Looks.{no_given}
use Rattle.mem_fs.proofs.inode.Content.list.Goals as goal

pub returns-in-File : goal.returns-in-File
returns-in-File c = subst (λ (x : Content). c.new.result.items ≡ given_names (names_in (Some (shown x)))) (sym c.in-File.is) (c.new.ensures.items ∙ sym no_given)

pub returns-in-Link : goal.returns-in-Link
returns-in-Link c = subst (λ (x : Content). c.new-in-Link.result.items ≡ given_names (names_in (Some (shown x)))) (sym c.in-Link.is) (c.new-in-Link.ensures.items ∙ sym no_given)
