use Rattle.std.proofs.Common.{◌≡◌, refl, sym, subst, ◌∙◌, arith}
use Rattle.vfs_tree.specs.declared.walk.Step.TheVariants.{Wants}
use Rattle.vfs_tree.specs.declared.world.World.{World}
use Rattle.call_model.specs.Rows.{row}
use Rattle.vfs_core.specs.Coming.{Goes}
use Rattle.vfs_core.proofs.AdvancingLaws.{ends_at_once, ends_lacking, goes_other, room_for}
use Rattle.vfs_core.proofs.advancing.advance.Goals as goal

pub returns-in-Answered-clause-advanced : goal.returns-in-Answered-clause-advanced
returns-in-Answered-clause-advanced c =
    ends_at_once c.args.world.now c.answer_or_need.new.world c.args.history.now c.args.history.now c.args.caller c.args.call.now c.in-Answered.answer.reply c.in-Answered.ensures.came refl (omega arith)

pub enter-requires-clause-room : goal.enter-requires-clause-room
enter-requires-clause-room c =
    let came = c.in-Needs.ensures.came in
    room_for c.answer_or_need.new.world c.args.caller c.args.call.now c.in-Needs.what
    (subst (λ (w : World). row w c.args.caller c.args.call.now ≡ Wants c.in-Needs.what) (sym came.1) came.0)

pub returns-in-Ok-clause-advanced : goal.returns-in-Ok-clause-advanced
returns-in-Ok-clause-advanced c =
    let came = c.in-Needs.ensures.came in
    let needs : row c.answer_or_need.new.world c.args.caller c.args.call.now ≡ Wants c.in-Needs.what =
    subst (λ (w : World). row w c.args.caller c.args.call.now ≡ Wants c.in-Needs.what) (sym came.1) came.0 in (
      c.in-Needs.what,
      subst (λ (w : World). Goes w c.enter.new.world c.args.history.now c.enter.new.history c.args.caller c.args.call.now c.in-Needs.what) came.1
          (goes_other c.answer_or_need.new.world c.enter.new.world c.args.history.now c.enter.new.history c.args.caller c.args.call.now c.in-Needs.what
          needs (sym c.in-None.ensures) c.in-Ok.ensures.made c.in-Ok.ensures.number c.in-Ok.ensures.entered c.enter.ensures.never_less),
    )

pub returns-in-Err-clause-advanced : goal.returns-in-Err-clause-advanced
returns-in-Err-clause-advanced c =
    let came = c.in-Needs.ensures.came in
    ends_lacking c.args.world.now c.enter.new.world c.args.history.now c.enter.new.history c.args.caller c.args.call.now c.in-Needs.what c.failed.result.reply
    c.requires.leaving came.0 (sym c.in-None.ensures) c.failed.ensures (c.in-Err.ensures.err_world ∙ came.1) c.in-Err.ensures.err_history c.enter.ensures.never_less

pub returns-in-Some-clause-sure : goal.returns-in-Some-clause-sure
returns-in-Some-clause-sure c = λ none. absurd (c.in-Needs.ensures.sure none)

pub returns-in-Ok-clause-sure : goal.returns-in-Ok-clause-sure
returns-in-Ok-clause-sure c = λ none. absurd (c.in-Needs.ensures.sure none)

pub returns-in-Err-clause-sure : goal.returns-in-Err-clause-sure
returns-in-Err-clause-sure c = λ none. absurd (c.in-Needs.ensures.sure none)
