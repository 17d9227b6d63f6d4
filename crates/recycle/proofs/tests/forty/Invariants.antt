use Rattle.std.proofs.Common.{◌≡◌, ◌∷◌, []}
use Rattle.vnode_rec.specs.Vnodes.{IsMatched}
use Rattle.recycle.proofs.tests.forty.Given as goal

abbrev pub invariant-loop-ino : goal.invariant-loop-ino
invariant-loop-ino g l = record {
  matched : IsMatched g.B.Vop.vkind l.table;
  rows : l.table.rows ≡ (l.held ∷ []) ∷ [] ∷ [];
  uses : l.table.uses ≡ 1;
}
