use Rattle.model_laws.proofs.FileLaws.{same_bytes, same_names}
use Rattle.model_laws.proofs.files.each_file_is_one_file.Goals as goal

pub returns-clause-node : goal.returns-clause-node
returns-clause-node c = same_bytes

pub returns-clause-names : goal.returns-clause-names
returns-clause-names c = same_names
