use Rattle.need_laws.proofs.TurnLaws.{copy_name, copy_node, copy_older, copy_reads, copy_pread, copy_others}
use Rattle.need_laws.proofs.copying.older_open_files_read_the_copy.Goals as goal

pub returns-clause-name : goal.returns-clause-name
returns-clause-name c = copy_name

pub returns-clause-copy : goal.returns-clause-copy
returns-clause-copy c = copy_node

pub returns-clause-older : goal.returns-clause-older
returns-clause-older c = copy_older

pub returns-clause-reads : goal.returns-clause-reads
returns-clause-reads c = copy_reads

pub returns-clause-pread : goal.returns-clause-pread
returns-clause-pread c = copy_pread

pub returns-clause-others : goal.returns-clause-others
returns-clause-others c = copy_others
