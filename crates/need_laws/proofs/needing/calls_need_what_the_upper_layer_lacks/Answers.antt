use Rattle.need_laws.proofs.NeededShown.{lacks_dir, lacks_file}
use Rattle.need_laws.proofs.needing.calls_need_what_the_upper_layer_lacks.Goals as goal

pub returns-clause-shadow : goal.returns-clause-shadow
returns-clause-shadow c = lacks_dir

pub returns-clause-copy : goal.returns-clause-copy
returns-clause-copy c = lacks_file
