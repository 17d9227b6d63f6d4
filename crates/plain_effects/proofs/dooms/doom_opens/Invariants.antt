use Rattle.std.proofs.Common.{◌≡◌}
use Rattle.std.specs.FinMap.{entries}
use Rattle.call_model.specs.Effects.{doomed_open}
use Rattle.plain_effects.proofs.EachLaws.{changed_to}
use Rattle.plain_effects.proofs.dooms.doom_opens.Given as goal

-- those before the index are changed
abbrev pub invariant-loop-at : goal.invariant-loop-at
invariant-loop-at l = entries l.opens ≡ changed_to l.at (doomed_open l.place) (entries l.initial.opens)
