use Rattle.std.proofs.Common.{refl}
use Rattle.worked_calls.proofs.Rules.{rows}
use Rattle.worked_calls.proofs.files.a_file_has_a_greatest_size.Goals as goal

pub returns : goal.returns
returns c = simp rows refl
