use Rattle.open_laws.proofs.OpenFiles.{open_node, open_bytes, history_node, history_bytes, start_node, start_bytes}
use Rattle.open_laws.proofs.files.an_open_file_keeps_its_bytes.Goals as goal

pub returns-clause-node : goal.returns-clause-node
returns-clause-node c = open_node

pub returns-clause-bytes : goal.returns-clause-bytes
returns-clause-bytes c = open_bytes

pub returns-clause-world_node : goal.returns-clause-world_node
returns-clause-world_node c = history_node

pub returns-clause-world_bytes : goal.returns-clause-world_bytes
returns-clause-world_bytes c = history_bytes

pub returns-clause-start_node : goal.returns-clause-start_node
returns-clause-start_node c = start_node

pub returns-clause-start_bytes : goal.returns-clause-start_bytes
returns-clause-start_bytes c = start_bytes
