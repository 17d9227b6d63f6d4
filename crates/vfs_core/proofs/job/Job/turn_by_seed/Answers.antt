use Rattle.std.proofs.Common.{sym, subst}
use Rattle.vfs_core.specs.Turning.{Paces}
use Rattle.vfs_core.proofs.TurnLaws.{turn_paces}
use Rattle.vfs_core.proofs.job.Job.turn_by_seed.Goals as goal

pub returns-clause-paces : goal.returns-clause-paces
returns-clause-paces c =
    subst (λ p. Paces c.args.self.now c.turn-turned.new.self p) (sym c.pace_of.ensures)
    (turn_paces c.args.self.now c.turn-turned.new.self c.ready_at-caller.result c.turn-turned.result c.ready_at-caller.ensures.caller c.ready_at-caller.ensures.ready c.turn-turned.ensures.turned)
