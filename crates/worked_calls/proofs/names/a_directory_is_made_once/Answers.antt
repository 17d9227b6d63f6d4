use Rattle.std.proofs.Common.{refl}
use Rattle.worked_calls.proofs.Rules.{rows}
use Rattle.worked_calls.proofs.names.a_directory_is_made_once.Goals as goal

pub returns-clause-made : goal.returns-clause-made
returns-clause-made c = simp rows refl

pub returns-clause-again : goal.returns-clause-again
returns-clause-again c = simp rows refl
