use Rattle.std.proofs.Common.{◌≡◌}
use Rattle.std.specs.FinMap.{entries}
use Rattle.vfs_tree.specs.Place.{UnionUp}
use Rattle.call_model.specs.Effects.{turned_open}
use Rattle.plain_effects.proofs.EachLaws.{changed_to}
use Rattle.plain_effects.proofs.turn.turn_opens.Given as goal

-- those before the index are turned
abbrev pub invariant-loop-at : goal.invariant-loop-at
invariant-loop-at l = entries l.opens ≡ changed_to l.at (turned_open l.from (UnionUp l.mount l.ino)) (entries l.initial.opens)
