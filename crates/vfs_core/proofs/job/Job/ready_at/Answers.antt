use Rattle.std.proofs.Common.{sym, ◌∙◌, arith, ◌+◌, ◌≡◌, true, false}
use Rattle.vfs_core.specs.Turning.{is_ready}
use Rattle.vfs_core.proofs.TurnLaws.{ready_zero, ready_yes, ready_no}
use Rattle.vfs_core.proofs.job.Job.ready_at.Goals as goal

pub loop-before-init : goal.loop-before-init
loop-before-init c = (ready_zero c.args.self.now, omega arith)

pub loop-before-preserved-then-not-is_ready : goal.loop-before-preserved-then-not-is_ready
loop-before-preserved-then-not-is_ready c =
    let gone : is_ready c.args.self.now (c.loop-before.before + 1) ≡ false = sym c.is_ready.ensures ∙ c.if-not-is_ready.true in
    (c.loop-before.invariant.0 ∙ sym (ready_no c.args.self.now c.loop-before.before gone), c.loop-before.invariant.1)

pub returns-then-count-position-clause-at : goal.returns-then-count-position-clause-at
returns-then-count-position-clause-at c =
    let there : is_ready c.args.self.now (c.loop-before.before + 1) ≡ true = sym c.is_ready.ensures ∙ c.if-not-is_ready.false in
    let next = ready_yes c.args.self.now c.loop-before.before there in
    let same = c.if-count-position.true in
    let was = c.loop-before.invariant.0 in
    omega arith

pub loop-before-preserved : goal.loop-before-preserved
loop-before-preserved c =
    let there : is_ready c.args.self.now (c.loop-before.before + 1) ≡ true = sym c.is_ready.ensures ∙ c.if-not-is_ready.false in
    let next = ready_yes c.args.self.now c.loop-before.before there in
    let other = c.if-count-position.false in
    let was = c.loop-before.invariant.0 in
    let low = c.loop-before.invariant.1 in
    (omega arith, omega arith)
