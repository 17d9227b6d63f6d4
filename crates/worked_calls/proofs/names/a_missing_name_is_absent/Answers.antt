use Rattle.std.proofs.Common.{refl}
use Rattle.worked_calls.proofs.Rules.{rows}
use Rattle.worked_calls.proofs.names.a_missing_name_is_absent.Goals as goal

pub returns : goal.returns
returns c = simp rows refl
