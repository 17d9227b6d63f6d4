use Rattle.std.proofs.Common.{refl}
use Rattle.worked_calls.proofs.Rules.{rows}
use Rattle.worked_calls.proofs.files.a_doomed_file_can_only_be_closed.Goals as goal

pub returns-clause-read : goal.returns-clause-read
returns-clause-read c = simp rows refl

pub returns-clause-lseek : goal.returns-clause-lseek
returns-clause-lseek c = simp rows refl

pub returns-clause-close : goal.returns-clause-close
returns-clause-close c = simp rows refl
