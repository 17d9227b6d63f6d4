use Rattle.script_text.proofs.Answered.{answer_found, answer_only, answer_bad}
use Rattle.script_text.proofs.reading.read_script.Goals as goal

pub returns-clause-found : goal.returns-clause-found
returns-clause-found c = answer_found c.args.bytes.now c.script_of.result c.script_of.ensures

pub returns-clause-only : goal.returns-clause-only
returns-clause-only c = answer_only c.args.bytes.now c.script_of.result c.script_of.ensures

pub returns-clause-bad : goal.returns-clause-bad
returns-clause-bad c = answer_bad c.args.bytes.now c.script_of.result c.script_of.ensures
