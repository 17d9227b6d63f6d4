use Rattle.std.proofs.Common.{◌≡◌}
use Rattle.std.specs.FinMap.{entries}
use Rattle.call_model.specs.Effects.{doomed_cwd}
use Rattle.plain_effects.proofs.EachLaws.{changed_to}
use Rattle.plain_effects.proofs.dooms.doom_cwds.Given as goal

-- those before the index are changed
abbrev pub invariant-loop-at : goal.invariant-loop-at
invariant-loop-at l = entries l.cwds ≡ changed_to l.at (doomed_cwd l.place) (entries l.initial.cwds)
