use Rattle.std.proofs.Common.{ap, sym, ◌∙◌}
use Rattle.std.specs.Prelude.{Some, None}
use Rattle.vfs_tree.specs.Counts.{gives_some_at}
use Rattle.mem_fs.proofs.Looks.{looked}
use Rattle.mem_fs.proofs.fs.MemFs.gives_some.Goals as goal

pub returns-in-Some : goal.returns-in-Some
returns-in-Some c = c.gives_some.ensures ∙ sym (ap gives_some_at (looked c.self.inside.nodes c.self.inside.next c.args.self.now c.args.dir (Some _) c.self.view_is c.in-Some.ensures))

pub returns-in-None : goal.returns-in-None
returns-in-None c = sym (ap gives_some_at (looked c.self.inside.nodes c.self.inside.next c.args.self.now c.args.dir None c.self.view_is c.in-None.ensures))
