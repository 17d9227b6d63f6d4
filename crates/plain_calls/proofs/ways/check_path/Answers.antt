use Rattle.std.proofs.Common.{sym, ap, subst, Err}
use Rattle.call_model.specs.Rows.{way, check_way}
use Rattle.plain_checks.specs.Coming.{Comes}
use Rattle.plain_calls.proofs.Parsing.{path_goes, path_refused}
use Rattle.plain_calls.proofs.ways.check_path.Goals as goal
use Rattle.plain_calls.proofs.ways.check_path.Goals.{in-Ok, in-Err-Refused, in-Err-NoMemory}

pub returns : goal.returns
returns c = elim c.match-parse_path.branch [
  | in-Ok w ↦ subst (λ r. Comes (check_way (way c.args.leaf c.args.text.now)) r) (sym w.result-is) (path_goes c.args.text.now _ w.in-Ok.ensures.path)
  | in-Err-Refused w ↦ subst (λ r. Comes (check_way (way c.args.leaf c.args.text.now)) r) (sym w.result-is) (path_refused c.args.text.now w.in-Err-Refused.errno ((w.in-Err-Refused.ensures.refused w.in-Err-Refused.errno).0 (ap Err w.in-Err-Refused.field-0-is)))
  | in-Err-NoMemory w ↦ subst (λ r. Comes (check_way (way c.args.leaf c.args.text.now)) r) (sym w.result-is) tt
]
