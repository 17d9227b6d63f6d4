use Rattle.std.proofs.Common.{◌≡◌}
use Rattle.std.specs.FinMap.{entries}
use Rattle.plain_effects.specs.Entries.{key_at}
use Rattle.plain_effects.proofs.entries.pair_at.Given as goal

-- the index among the entries that are left
abbrev pub invariant-loop-key : goal.invariant-loop-key
invariant-loop-key g l =
    (goal.iterator-loop-key g).can_next l.key-iterator ×
    (goal.iterator-loop-key g).is_finite l.key-iterator ×
    (key_at l.key-iterator l.left ≡ key_at (entries l.map) l.at)
