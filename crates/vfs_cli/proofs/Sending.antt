-- A worker's plan may go to its thread, with the calls in it.
use denote.Param.Send.{IsSend, sendable}
use Rattle.std.proofs.Crossing.{crosses}
use Rattle.call_model.proofs.call.Call.TheSendSync.{the_send as call-send}
use Rattle.vfs_cli.specs.contracts.plan.Plan as Plan
use Rattle.vfs_cli.specs.contracts.plan.Plan.TheInside as PlanInside

plan-inside-send : IsSend PlanInside.the_row
plan-inside-send = search (call-send, crosses, sendable) depth 30

pub plan-send : IsSend Plan.the_row
plan-send = search (plan-inside-send, sendable) depth 10
