use Rattle.std.proofs.Common.{◌≡◌, ◌≤◌, ◌+◌, ◌∙◌, ap, sym, true, false, arith}
use Rattle.vfs_tree.specs.declared.limits.Limits.{Limits}
use Rattle.vfs_core.proofs.TurnLaws.{over, ready_zero, ready_yes, ready_no}
use Rattle.vfs_core.specs.Turning.{is_ready, ready_to}
use Rattle.vfs_core.proofs.job.Job.ready.Goals as goal
use Rattle.vfs_core.proofs.job.Job.ready.Goals.{then-is_ready, else-is_ready}

pub returns-clause-none : goal.returns-clause-none
returns-clause-none c =
    let top : c.limits-callers.result.callers ≤ c.loop-before.before = c.loop-before-test.false in
    let bound : c.loop-before.before ≤ c.limits-callers.result.callers = c.loop-before.auto.before-end in
    let last : c.loop-before.before ≡ c.limits-callers.result.callers = omega arith in
    over _ _ _ _ c.self.view_is c.self.invariant c.loop-before.invariant (last ∙ ap (λ (l : Limits). l.callers) c.limits-callers.ensures.limits)

pub loop-before-init : goal.loop-before-init
loop-before-init c = (ready_zero c.args.self.now, omega arith)

pub loop-before-preserved : goal.loop-before-preserved
loop-before-preserved c =
    let count : c.loop-before.count ≡ ready_to c.args.self.now c.loop-before.before = c.loop-before.invariant.0 in
    let low : c.loop-before.count ≤ c.loop-before.before = c.loop-before.invariant.1 in
    elim c.if-is_ready.branch [
      | then-is_ready w ↦
          let there : is_ready c.args.self.now (c.loop-before.before + 1) ≡ true = sym c.is_ready.ensures ∙ w.if-is_ready.true in
          let next = ready_yes c.args.self.now c.loop-before.before there in
          let one : c.if-is_ready.count ≡ c.loop-before.count + 1 = w.count-is in
          (omega arith, omega arith)
      | else-is_ready w ↦
          let gone : is_ready c.args.self.now (c.loop-before.before + 1) ≡ false = sym c.is_ready.ensures ∙ w.if-is_ready.false in
          let next = ready_no c.args.self.now c.loop-before.before gone in
          let one : c.if-is_ready.count ≡ c.loop-before.count = w.count-is in
          (omega arith, omega arith)
    ]
