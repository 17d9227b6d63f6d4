use Rattle.std.proofs.Common.{sym, ◌∙◌}
use Rattle.vfs_core.proofs.TurnLaws.{filled-start, filled-next, filled_calls, filled_left, filled_runs, no_items}
use Rattle.vfs_core.proofs.job.Job.new.Goals as goal

pub loop-line-init : goal.loop-line-init
loop-line-init c = filled-start _ _ _ _ _ c.new-left.ensures c.new-order.ensures.items c.into_iter-line-iterator.ensures.into_iter_gives.0 c.requires.fits

pub loop-line-preserved : goal.loop-line-preserved
loop-line-preserved c = filled-next _ _ _ _ _ _ _ _ c.in-Some.line.caller c.in-Some.line.call c.loop-line.invariant c.in-Some.ensures.steps.0 c.in_ok-enqueue.ensures c.in_ok-push.ensures.items

pub returns-clause-each_call : goal.returns-clause-each_call
returns-clause-each_call c =
    let rest = c.loop-line.line-iterator.rest in
    filled_calls c.args.kern c.loop-line.left c.loop-line.order.items _ _ c.requires.idle c.loop-line.invariant (no_items rest.items (sym rest.ok.0 ∙ c.in-None.ensures.steps.0))

pub returns-clause-left : goal.returns-clause-left
returns-clause-left c =
    let rest = c.loop-line.line-iterator.rest in
    filled_left c.args.kern c.loop-line.left c.loop-line.order.items _ _ c.requires.idle c.loop-line.invariant (no_items rest.items (sym rest.ok.0 ∙ c.in-None.ensures.steps.0))

pub invariant_of-result : goal.invariant_of-result
invariant_of-result c = filled_runs _ _ _ _ _ c.requires.idle c.loop-line.invariant c.history-history.ensures.legal
