use Rattle.std.proofs.Common.{ap, sym, ◌∙◌}
use Rattle.std.specs.Prelude.{Some, None}
use Rattle.vfs_tree.specs.Nodes.{is_dir_node}
use Rattle.mem_fs.proofs.Looks.{looked, looked_reads}
use Rattle.mem_fs.proofs.fs.MemFs.reads.Goals as goal

pub returns-in-Some-clause-count : goal.returns-in-Some-clause-count
returns-in-Some-clause-count c = c.reads.ensures.count ∙ sym (looked_reads c.self.inside.nodes c.self.inside.next c.args.self.now c.args.dir (Some _) c.self.view_is c.in-Some.ensures)

pub returns-in-Some-clause-there : goal.returns-in-Some-clause-there
returns-in-Some-clause-there c = c.reads.ensures.there ∙ sym (ap is_dir_node (looked c.self.inside.nodes c.self.inside.next c.args.self.now c.args.dir (Some _) c.self.view_is c.in-Some.ensures))

pub returns-in-None-clause-count : goal.returns-in-None-clause-count
returns-in-None-clause-count c = sym (looked_reads c.self.inside.nodes c.self.inside.next c.args.self.now c.args.dir None c.self.view_is c.in-None.ensures)

pub returns-in-None-clause-there : goal.returns-in-None-clause-there
returns-in-None-clause-there c = sym (ap is_dir_node (looked c.self.inside.nodes c.self.inside.next c.args.self.now c.args.dir None c.self.view_is c.in-None.ensures))
