use Rattle.std.proofs.Common.{◌∙◌}
use Rattle.mem_fs.proofs.Looks.{find_found, find_store, find_kept, find_reads, find_reserved}
use Rattle.mem_fs.proofs.fs.MemFs.find.Goals as goal

pub invariant_of-self : goal.invariant_of-self
invariant_of-self c = find_kept c.self.inside.nodes _ c.self.inside.next c.args.dir c.self.invariant c.find.ensures.counted

pub returns-clause-found : goal.returns-clause-found
returns-clause-found c = c.find.ensures.found ∙ find_found c.self.inside.nodes c.self.inside.next c.args.dir c.args.name.now c.args.self.now c.self.view_is

pub returns-clause-store : goal.returns-clause-store
returns-clause-store c = find_store c.self.inside.nodes _ c.self.inside.next c.args.dir c.args.self.now c.self.view_is c.find.ensures.counted

pub returns-clause-reads : goal.returns-clause-reads
returns-clause-reads c = find_reads c.self.inside.nodes _ c.self.inside.next c.args.dir c.args.self.now c.self.view_is c.find.ensures.counted

pub returns-clause-reserved : goal.returns-clause-reserved
returns-clause-reserved c = find_reserved c.self.inside.nodes _ c.self.inside.next c.args.dir c.args.self.now c.self.view_is c.find.ensures.counted
