use Rattle.std.proofs.Common.{sym, ◌∙◌}
use Rattle.std.specs.Prelude.{Some, None}
use Rattle.mem_fs.proofs.Calls.{facts_of}
use Rattle.mem_fs.proofs.fs.MemFs.facts.Goals as goal

pub returns-in-Some : goal.returns-in-Some
returns-in-Some c = c.facts.ensures ∙ sym (facts_of c.self.inside.nodes c.self.inside.next c.args.self.now c.args.ino c.is_reached-linked.result (Some _) c.self.view_is c.self.invariant c.is_reached-linked.ensures c.in-Some.ensures)

pub returns-in-None : goal.returns-in-None
returns-in-None c = sym (facts_of c.self.inside.nodes c.self.inside.next c.args.self.now c.args.ino c.is_reached-linked.result None c.self.view_is c.self.invariant c.is_reached-linked.ensures c.in-None.ensures)
