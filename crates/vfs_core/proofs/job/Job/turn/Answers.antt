use Rattle.std.proofs.Common.{ap, ◌∙◌, refl, sym, subst}
use Rattle.vfs_core.specs.Work.{Work}
use Rattle.vfs_core.specs.Turning.{Begins, calls_with, HasLeft}
use Rattle.vfs_core.specs.declared.job.Turned.TheVariants as turned
use Rattle.vfs_core.proofs.TurnLaws.{turn_keeps_calls, turn_left, running-stepped, begins_turn}
use Rattle.vfs_core.proofs.job.Job.turn.Goals as goal

pub invariant_of-self : goal.invariant_of-self
invariant_of-self c = running-stepped _ _ _ _ c.args.caller _ c.self.invariant c.step-stepped.ensures.stepped c.step-stepped.ensures.legal

pub returns-then-is_live-clause-each_call : goal.returns-then-is_live-clause-each_call
returns-then-is_live-clause-each_call c =
    let new : Work = record { kern = c.step-stepped.new.self; left = c.self.inside.left; order = c.self.inside.order.items } in
    let old : Work = record { kern = c.self.inside.kern; left = c.self.inside.left; order = c.self.inside.order.items } in
    λ d. turn_keeps_calls old new c.args.caller (turned.Did c.step-stepped.result) (c.step-stepped.ensures.stepped, refl, refl) d ∙ ap (λ (j : Work). calls_with j d) c.self.view_is

pub returns-in-Began-clause-each_call : goal.returns-in-Began-clause-each_call
returns-in-Began-clause-each_call c =
    let turn = begins_turn _ _ c.args.caller _ c.begin.ensures.begun in
    turn_keeps_calls _ _ c.args.caller turn.0 turn.1

pub returns-then-is_live-clause-left : goal.returns-then-is_live-clause-left
returns-then-is_live-clause-left c =
    let new : Work = record { kern = c.step-stepped.new.self; left = c.self.inside.left; order = c.self.inside.order.items } in
    let old : Work = record { kern = c.self.inside.kern; left = c.self.inside.left; order = c.self.inside.order.items } in
    λ lines had. turn_left old new c.args.caller (turned.Did c.step-stepped.result) (c.step-stepped.ensures.stepped, refl, refl) lines (subst (λ (j : Work). HasLeft lines j) (sym c.self.view_is) had)

pub returns-in-Began-clause-left : goal.returns-in-Began-clause-left
returns-in-Began-clause-left c =
    turn_left _ _ c.args.caller turned.Began (subst (λ b. Begins c.args.self.now c.begin.new.self c.args.caller b) c.in-Began.is c.begin.ensures.begun)
