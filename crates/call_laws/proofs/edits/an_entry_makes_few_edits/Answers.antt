use Rattle.call_laws.proofs.EditLaws.{few_edits, edits-joined, edited-joined}
use Rattle.call_laws.proofs.edits.an_entry_makes_few_edits.Goals as goal

pub returns-clause-few : goal.returns-clause-few
returns-clause-few c = few_edits

pub returns-clause-joined : goal.returns-clause-joined
returns-clause-joined c = edits-joined

pub returns-clause-done : goal.returns-clause-done
returns-clause-done c = edited-joined
