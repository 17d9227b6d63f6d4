use Rattle.vfs_tree.proofs.StartLaws.{below_root}
use Rattle.vfs_tree.proofs.node.Store.new.Goals as goal

pub returns-clause-below : goal.returns-clause-below
returns-clause-below c = below_root _ _ _ c.in_ok-insert.ensures.ok c.new-nodes.ensures
