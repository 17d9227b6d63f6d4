use Rattle.std.proofs.Common.{◌≡◌, map}
use Rattle.std.specs.Prelude.{None}
use Rattle.call_model.specs.Refs.{open_reference, open_references}
use Rattle.plain_mounts.specs.Ranking.{best_of}
use Rattle.plain_mounts.proofs.first.best_open.Given as goal

-- the best so far goes on with those that are left
abbrev pub invariant-loop-key : goal.invariant-loop-key
invariant-loop-key l =
    (goal.iterator-loop-key).can_next l.key-iterator ×
    (goal.iterator-loop-key).is_finite l.key-iterator ×
    (best_of l.world l.sought l.best (map open_reference l.key-iterator) ≡ best_of l.world l.sought None (open_references l.world))
