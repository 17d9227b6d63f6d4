use Rattle.std.proofs.Common.{ap, ◌∙◌}
use Rattle.mem_fs.specs.Inodes.{own_name}
use Rattle.mem_fs.proofs.NameLooks.{name_kept}
use Rattle.mem_fs.proofs.fs.MemFs.name_of.Goals as goal

pub returns-in-Some : goal.returns-in-Some
returns-in-Some c = c.own_name.ensures ∙ ap own_name c.in-Some.ensures ∙ name_kept c.self.inside.nodes c.self.inside.next c.args.self.now c.args.ino c.self.view_is c.self.invariant.named

pub returns-in-None : goal.returns-in-None
returns-in-None c = ap own_name c.in-None.ensures ∙ name_kept c.self.inside.nodes c.self.inside.next c.args.self.now c.args.ino c.self.view_is c.self.invariant.named
