use Rattle.std.proofs.Common.{refl}
use Rattle.worked_calls.proofs.Rules.{rows}
use Rattle.worked_calls.proofs.numbers.no_node_without_a_number.Goals as goal

pub returns-clause-mkdir : goal.returns-clause-mkdir
returns-clause-mkdir c = simp rows refl

pub returns-clause-symlink : goal.returns-clause-symlink
returns-clause-symlink c = simp rows refl

pub returns-clause-open : goal.returns-clause-open
returns-clause-open c = simp rows refl

pub returns-clause-root : goal.returns-clause-root
returns-clause-root c = simp rows refl
