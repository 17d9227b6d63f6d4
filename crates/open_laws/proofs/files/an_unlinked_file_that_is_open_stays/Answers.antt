use Rattle.open_laws.proofs.OpenFiles.{unlinked_open, unlinked_node, unlinked_read, unlinked_moves, open_kept_in, open_kept}
use Rattle.open_laws.proofs.files.an_unlinked_file_that_is_open_stays.Goals as goal

pub returns-clause-opens : goal.returns-clause-opens
returns-clause-opens c = unlinked_open

pub returns-clause-node : goal.returns-clause-node
returns-clause-node c = unlinked_node

pub returns-clause-pread : goal.returns-clause-pread
returns-clause-pread c = unlinked_read

pub returns-clause-read : goal.returns-clause-read
returns-clause-read c = unlinked_moves

pub returns-clause-kept_in : goal.returns-clause-kept_in
returns-clause-kept_in c = open_kept_in

pub returns-clause-kept : goal.returns-clause-kept
returns-clause-kept c = open_kept
