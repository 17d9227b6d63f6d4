use Rattle.open_laws.proofs.DeepLaws.{first_deepest, doomed_deepest, revoked_deepest}
use Rattle.open_laws.proofs.dooms.the_deepest_reference_is_doomed_first.Goals as goal

pub returns-clause-first : goal.returns-clause-first
returns-clause-first c = first_deepest

pub returns-clause-doomed : goal.returns-clause-doomed
returns-clause-doomed c = doomed_deepest

pub returns-clause-revoked : goal.returns-clause-revoked
returns-clause-revoked c = λ w d text at p e there. (revoked_deepest w d text at p e there).1
