use Rattle.std.proofs.Common.{ap, sym, ◌∙◌}
use Rattle.std.specs.Prelude.{Some, None, option_map}
use Rattle.vfs_tree.specs.Views.{kind_of_node}
use Rattle.mem_fs.proofs.Looks.{looked}
use Rattle.mem_fs.proofs.fs.MemFs.kind.Goals as goal

pub returns-in-Some : goal.returns-in-Some
returns-in-Some c = ap Some c.kind.ensures ∙ sym (ap (option_map kind_of_node) (looked c.self.inside.nodes c.self.inside.next c.args.self.now c.args.ino (Some _) c.self.view_is c.in-Some.ensures))

pub returns-in-None : goal.returns-in-None
returns-in-None c = sym (ap (option_map kind_of_node) (looked c.self.inside.nodes c.self.inside.next c.args.self.now c.args.ino None c.self.view_is c.in-None.ensures))
