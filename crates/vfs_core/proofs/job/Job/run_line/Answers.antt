use Rattle.std.proofs.Common.{sym, ◌∙◌}
use Rattle.vfs_core.specs.Turning.{StartsLine}
use Rattle.vfs_core.proofs.TurnLaws.{starts_begun, starts_here, starts_live, starts_runs, starts_line, idle_line, running-ends}
use Rattle.vfs_core.proofs.job.Job.run_line.Goals as goal
use Rattle.vfs_core.proofs.job.Job.run_line.Goals.{then-not-is_live+in-Began, else-not-is_live}

pub end_call-requires : goal.end_call-requires
end_call-requires c =
    let start : StartsLine c.args.caller c.args.self.now (record { kern = c.self-2.inside.kern; left = c.self-2.inside.left; order = c.self-2.inside.order.items }) =
    elim c.if-not-is_live.branch [
      | then-not-is_live+in-Began w ↦ starts_begun _ _ _ _ _ w.begin.ensures.begun w.in-Began.is (c.self-2.view_is ∙ w.self-is)
      | else-not-is_live w ↦ starts_here _ _ _ _ _ c.self.view_is c.is_live.ensures w.if-not-is_live.false (c.self-2.view_is ∙ w.self-is)
    ]
    in
    starts_live _ _ _ start

pub invariant_of-self : goal.invariant_of-self
invariant_of-self c = running-ends _ _ _ _ c.args.caller c.self-2.invariant c.end_call.ensures.ended c.end_call.ensures.legal

pub returns-clause-runs : goal.returns-clause-runs
returns-clause-runs c =
    let start : StartsLine c.args.caller c.args.self.now (record { kern = c.self-2.inside.kern; left = c.self-2.inside.left; order = c.self-2.inside.order.items }) =
    elim c.if-not-is_live.branch [
      | then-not-is_live+in-Began w ↦ starts_begun _ _ _ _ _ w.begin.ensures.begun w.in-Began.is (c.self-2.view_is ∙ w.self-is)
      | else-not-is_live w ↦ starts_here _ _ _ _ _ c.self.view_is c.is_live.ensures w.if-not-is_live.false (c.self-2.view_is ∙ w.self-is)
    ]
    in
    starts_runs _ _ _ _ start c.end_call.ensures.ended

pub returns-clause-line : goal.returns-clause-line
returns-clause-line c =
    let start : StartsLine c.args.caller c.args.self.now (record { kern = c.self-2.inside.kern; left = c.self-2.inside.left; order = c.self-2.inside.order.items }) =
    elim c.if-not-is_live.branch [
      | then-not-is_live+in-Began w ↦ starts_begun _ _ _ _ _ w.begin.ensures.begun w.in-Began.is (c.self-2.view_is ∙ w.self-is)
      | else-not-is_live w ↦ starts_here _ _ _ _ _ c.self.view_is c.is_live.ensures w.if-not-is_live.false (c.self-2.view_is ∙ w.self-is)
    ]
    in
    starts_line _ _ _ _ start c.end_call.ensures.ended

pub returns-in-Idle-clause-line : goal.returns-in-Idle-clause-line
returns-in-Idle-clause-line c = idle_line _ _ _ _ _ c.begin.ensures.begun c.in-Idle.is
