use Rattle.layer_laws.proofs.UncutRows.{shadow_uncut}
use Rattle.layer_laws.proofs.WantRows.{shadow_free, shadow_shown}
use Rattle.layer_laws.proofs.shadows.a_shadow_directory_stands_for_one_that_is_shown.Goals as goal

pub returns-clause-shown : goal.returns-clause-shown
returns-clause-shown c = shadow_shown

pub returns-clause-free : goal.returns-clause-free
returns-clause-free c = shadow_free

pub returns-clause-cut : goal.returns-clause-cut
returns-clause-cut c = shadow_uncut
