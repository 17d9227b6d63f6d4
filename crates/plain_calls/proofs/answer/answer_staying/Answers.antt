use Rattle.std.proofs.Common.{◌∙◌}
use Rattle.plain_calls.proofs.Deciding.{no_first, no_second}
use Rattle.plain_calls.proofs.answer.answer_staying.Goals as goal

pub returns-in_err-check_way-clause-reserved : goal.returns-in_err-check_way-clause-reserved
returns-in_err-check_way-clause-reserved c = λ none. let ok = c.in_err-check_way.ensures.sure (c.first_way-first_path.ensures ∙ no_first c.args.call.now none) in absurd (cc)

pub returns-in_err-check_way-2-clause-reserved : goal.returns-in_err-check_way-2-clause-reserved
returns-in_err-check_way-2-clause-reserved c = λ none. let ok = c.in_err-check_way-2.ensures.sure (c.second_way-second_path.ensures ∙ no_second c.args.call.now none) in absurd (cc)

pub returns-in_err-first-clause-reserved : goal.returns-in_err-first-clause-reserved
returns-in_err-first-clause-reserved c = λ none. let ok = c.in_err-first.ensures.sure (c.first_way-first_path.ensures ∙ no_first c.args.call.now none) in absurd (cc)

pub returns-in_err-second-clause-reserved : goal.returns-in_err-second-clause-reserved
returns-in_err-second-clause-reserved c = λ none. let ok = c.in_err-second.ensures.sure (c.second_way-second_path.ensures ∙ no_second c.args.call.now none) in absurd (cc)
