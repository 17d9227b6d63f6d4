use Rattle.std.proofs.Common.{◌≡◌, map}
use Rattle.std.specs.FinMap.{entries}
use Rattle.call_model.specs.Refs.{cwd_reference}
use Rattle.plain_mounts.specs.Ranking.{best_of}
use Rattle.plain_mounts.proofs.first.best_cwd.Given as goal

-- the best so far goes on with those that are left
abbrev pub invariant-loop-caller : goal.invariant-loop-caller
invariant-loop-caller l =
    (goal.iterator-loop-caller).can_next l.caller-iterator ×
    (goal.iterator-loop-caller).is_finite l.caller-iterator ×
    (best_of l.world l.sought l.best (map cwd_reference l.caller-iterator) ≡ best_of l.world l.sought l.fn.before (map cwd_reference (entries l.world.cwds)))
