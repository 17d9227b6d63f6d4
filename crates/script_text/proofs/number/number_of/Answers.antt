use Rattle.std.proofs.Common.{sym, Some, None}
use Rattle.script_text.proofs.Values.{number_is}
use Rattle.script_text.proofs.number.number_of.Goals as goal

pub returns-in-Some : goal.returns-in-Some
returns-in-Some c = sym (number_is c.args.word.now (Some c.in-Some.number) c.in-Some.ensures.small c.in-Some.ensures.found c.in-Some.ensures.none)

pub returns-in-None : goal.returns-in-None
returns-in-None c = sym (number_is c.args.word.now None c.in-None.ensures.small c.in-None.ensures.found c.in-None.ensures.none)
