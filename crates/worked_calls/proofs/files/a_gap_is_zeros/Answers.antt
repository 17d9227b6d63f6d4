use Rattle.std.proofs.Common.{refl}
use Rattle.worked_calls.proofs.Rules.{rows}
use Rattle.worked_calls.proofs.files.a_gap_is_zeros.Goals as goal

pub returns : goal.returns
returns c = simp rows refl
