use Rattle.open_laws.proofs.KeepLaws.{store_mounted, node_there, node_kept, history_mounted, history_there, history_kept}
use Rattle.open_laws.proofs.keeping.an_open_file_is_kept.Goals as goal

pub returns-clause-mount : goal.returns-clause-mount
returns-clause-mount c = store_mounted

pub returns-clause-node : goal.returns-clause-node
returns-clause-node c = node_there

pub returns-clause-kept : goal.returns-clause-kept
returns-clause-kept c = node_kept

pub returns-clause-history_mount : goal.returns-clause-history_mount
returns-clause-history_mount c = history_mounted

pub returns-clause-history_node : goal.returns-clause-history_node
returns-clause-history_node c = history_there

pub returns-clause-history_kept : goal.returns-clause-history_kept
returns-clause-history_kept c = history_kept
