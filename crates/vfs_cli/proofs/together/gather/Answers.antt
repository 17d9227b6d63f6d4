use Rattle.std.proofs.Common.{List, [], ◌∷◌, ◌++◌, ap, ◌∙◌}
use Rattle.call_model.specs.declared.call.Call.{Call}
use Rattle.vfs_cli.proofs.WorkerLaws.{gathering_first, gathering_one, gathering_own}
use Rattle.vfs_cli.proofs.together.gather.Goals as goal

pub loop-worker-init : goal.loop-worker-init
loop-worker-init c = (
  gathering_first c.args.vfs.now c.args.workers.now.items c.pop.new.self.items c.in-Some.field-0 c.push_reserved.new.self.items c.requires.own c.in-Some.ensures.items
      (c.push_reserved.ensures.items ∙ ap (λ (ps : List (List Call)). ps ++ c.in-Some.field-0.left ∷ []) c.requires.none),
  c.push_reserved.ensures.capacity,
)

pub take_in-requires-clause-own : goal.take_in-requires-clause-own
take_in-requires-clause-own c = (
  c.loop-worker.invariant.0.own,
  gathering_own c.args.vfs.now c.args.workers.now.items c.loop-worker.workers.items c.pop-in-loop-worker.new.self.items c.loop-worker.seat c.in-Some-pop.worker c.loop-worker.plans.items
      c.requires.own c.loop-worker.invariant.0 c.in-Some-pop.ensures.items,
)

pub loop-worker-preserved : goal.loop-worker-preserved
loop-worker-preserved c = (
  gathering_one c.args.vfs.now c.args.workers.now.items c.loop-worker.workers.items c.pop-in-loop-worker.new.self.items c.loop-worker.seat c.take_in.new.seat c.in-Some-pop.worker c.loop-worker.plans.items c.take_in.new.plans.items
      c.loop-worker.invariant.0 c.in-Some-pop.ensures.items c.take_in.ensures.own c.take_in.ensures.made c.take_in.ensures.left,
  c.take_in.ensures.room ∙ c.loop-worker.invariant.1,
)
