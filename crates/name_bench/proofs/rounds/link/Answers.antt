use Rattle.std.proofs.Common.{◌≡◌, true, rules, ap, ◌∙◌}
use Rattle.std.specs.FinMap.{get}
use Rattle.vfs_tree.specs.Nodes.{is_dir_node}
use Rattle.vfs_tree.specs.StoreEdits.{entry_of}
use Rattle.vfs_tree.specs.declared.node.Store.{Store}
use Rattle.mem_fs.specs.FileSystem.{FileSystem}
use Rattle.name_bench.proofs.Names.{gives_set, gives_kept}
use Rattle.name_bench.proofs.rounds.link.Goals as goal

pub returns-clause-gives : goal.returns-clause-gives
returns-clause-gives c =
    let dir : is_dir_node (get c.find.new.self.store.nodes 1) ≡ true = search rules in
    gives_set c.find.new.self.store c.link.new.self.store 1 c.args.file c.args.name dir (ap (λ (x : FileSystem). x.store) c.in_ok-link.ensures.linked)

pub returns-clause-kept : goal.returns-clause-kept
returns-clause-kept c =
    λ n gave.
    gives_kept c.find.new.self.store c.link.new.self.store 1 c.args.file c.args.name n (ap (λ (x : FileSystem). x.store) c.in_ok-link.ensures.linked)
    (ap (λ (x : Store). entry_of x 1 n) c.find.ensures.store ∙ gave)
