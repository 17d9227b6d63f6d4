use Rattle.std.proofs.Common.{◌≡◌, [], ap, subst, sym, ◌∙◌}
use Rattle.std.specs.FinMap.{get}
use Rattle.vfs_tree.specs.declared.walk.Step.TheVariants.{Refuse, Wants}
use Rattle.call_model.specs.Legal.{MayAnswer, is_no_memory}
use Rattle.call_model.specs.Rows.{row}
use Rattle.plain_checks.specs.Coming.{Stops}
use Rattle.vfs_core.proofs.ComingLaws.{may_answer, may_lack, may_refuse, none_there}
use Rattle.vfs_core.proofs.SureLaws.{sure_answer, sure_need, sure_refusal}
use Rattle.vfs_core.proofs.answering.answer_or_need.Goals as goal

pub returns-in-Ok-clause-came : goal.returns-in-Ok-clause-came
returns-in-Ok-clause-came c = may_answer c.args.world.now c.answer_call.new.world [] c.args.caller c.args.call.now c.in-Ok.answer.reply c.in-Ok.ensures.answered

pub returns-in-Err-Refused-clause-came : goal.returns-in-Err-Refused-clause-came
returns-in-Err-Refused-clause-came c =
    let refused = c.in-Err-Refused.ensures.answered in
    let is : row c.args.world.now c.args.caller c.args.call.now ≡ Refuse c.in-Err-Refused.errno =
    subst (Stops (row c.args.world.now c.args.caller c.args.call.now)) c.in-Err-Refused.field-0-is refused.0 in
    subst (λ r. MayAnswer c.args.world.now [] c.args.caller c.args.call.now r c.answer_call.new.world) (sym c.failed.ensures)
    (may_refuse c.args.world.now c.answer_call.new.world c.args.caller c.args.call.now c.in-Err-Refused.errno c.requires.leaving is refused.1)

pub returns-in-Err-NoMemory-clause-came : goal.returns-in-Err-NoMemory-clause-came
returns-in-Err-NoMemory-clause-came c =
    let lacks = c.in-Err-NoMemory.ensures in
    subst (λ r. MayAnswer c.args.world.now [] c.args.caller c.args.call.now r c.answer_call.new.world) (sym c.failed-in-Err-NoMemory.ensures)
    (may_lack c.args.world.now c.answer_call.new.world c.args.caller c.args.call.now
    (none_there (get c.args.world.now.leaving c.args.caller) (λ some. lacks.sure some c.in-Err-NoMemory.field-0-is)) lacks.answered.1)

pub returns-in-Ok-clause-sure : goal.returns-in-Ok-clause-sure
returns-in-Ok-clause-sure c = λ _.
    sure_answer c.args.world.now c.answer_call.new.world c.args.caller c.args.call.now c.in-Ok.answer.reply c.in-Ok.ensures.answered

pub returns-in-Err-Refused-clause-sure : goal.returns-in-Err-Refused-clause-sure
returns-in-Err-Refused-clause-sure c = λ none.
    let is : row c.args.world.now c.args.caller c.args.call.now ≡ Refuse c.in-Err-Refused.errno =
    subst (Stops (row c.args.world.now c.args.caller c.args.call.now)) c.in-Err-Refused.field-0-is c.in-Err-Refused.ensures.answered.0 in
    ap is_no_memory c.failed.ensures ∙ sure_refusal c.args.world.now c.args.caller c.args.call.now c.in-Err-Refused.errno none is

pub returns-in-Err-Needs-clause-sure : goal.returns-in-Err-Needs-clause-sure
returns-in-Err-Needs-clause-sure c = λ none.
    let is : row c.args.world.now c.args.caller c.args.call.now ≡ Wants c.in-Err-Needs.what =
    subst (Stops (row c.args.world.now c.args.caller c.args.call.now)) c.in-Err-Needs.field-0-is c.in-Err-Needs.ensures.answered.0 in
    sure_need c.args.world.now c.args.caller c.args.call.now c.in-Err-Needs.what none is

pub returns-in-Err-NoMemory-clause-sure : goal.returns-in-Err-NoMemory-clause-sure
returns-in-Err-NoMemory-clause-sure c = λ none. absurd (c.in-Err-NoMemory.ensures.reserved none c.in-Err-NoMemory.field-0-is)
