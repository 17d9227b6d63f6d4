use Rattle.std.proofs.Common.{sym, subst}
use Rattle.call_model.specs.Rows.{check_way}
use Rattle.plain_checks.specs.Coming.{Comes}
use Rattle.plain_calls.specs.Answering.{way_of}
use Rattle.plain_calls.proofs.ways.check_way.Goals as goal

pub returns-in-Some-clause-comes : goal.returns-in-Some-clause-comes
returns-in-Some-clause-comes c = subst (λ w. Comes (check_way (way_of w)) c.check_path.result) (sym c.in-Some.is) c.check_path.ensures
