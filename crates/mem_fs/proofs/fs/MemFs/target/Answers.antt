use Rattle.std.proofs.Common.{ap, sym, ◌∙◌}
use Rattle.std.specs.Prelude.{Some, None, option_and_then}
use Rattle.vfs_tree.specs.Views.{target_in}
use Rattle.mem_fs.proofs.Looks.{looked}
use Rattle.mem_fs.proofs.fs.MemFs.target.Goals as goal

pub returns-in-Some : goal.returns-in-Some
returns-in-Some c = c.target.ensures ∙ sym (ap (option_and_then target_in) (looked c.self.inside.nodes c.self.inside.next c.args.self.now c.args.ino (Some _) c.self.view_is c.in-Some.ensures))

pub returns-in-None : goal.returns-in-None
returns-in-None c = sym (ap (option_and_then target_in) (looked c.self.inside.nodes c.self.inside.next c.args.self.now c.args.ino None c.self.view_is c.in-None.ensures))
