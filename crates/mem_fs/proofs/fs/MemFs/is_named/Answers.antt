use Rattle.std.proofs.Common.{sym, ◌∙◌}
use Rattle.mem_fs.proofs.Calls.{links_times}
use Rattle.mem_fs.proofs.fs.MemFs.is_named.Goals as goal

pub returns : goal.returns
returns c = c.is_linked.ensures ∙ sym (links_times c.self.inside.nodes c.self.inside.next c.args.self.now c.args.ino c.self.view_is c.self.invariant)
