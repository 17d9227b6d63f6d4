use Rattle.open_laws.proofs.ReadLaws.{world_node, world_bytes, world_pread, start_node, start_bytes, start_pread}
use Rattle.open_laws.proofs.reading.a_descriptor_keeps_its_bytes.Goals as goal

pub returns-clause-world_node : goal.returns-clause-world_node
returns-clause-world_node c = world_node

pub returns-clause-world_bytes : goal.returns-clause-world_bytes
returns-clause-world_bytes c = world_bytes

pub returns-clause-world_pread : goal.returns-clause-world_pread
returns-clause-world_pread c = world_pread

pub returns-clause-start_node : goal.returns-clause-start_node
returns-clause-start_node c = start_node

pub returns-clause-start_bytes : goal.returns-clause-start_bytes
returns-clause-start_bytes c = start_bytes

pub returns-clause-start_pread : goal.returns-clause-start_pread
returns-clause-start_pread c = start_pread
