use Rattle.std.proofs.Common.{◌≡◌, ◌+◌, length, slice_set}
use Rattle.vnode_rec.specs.Holders.{row_in}
use Rattle.vnode_rec.specs.Vnodes.{IsMatched}
use Rattle.vnode_rec.proofs.table.VnodeTableOf.empty_row.Given as goal

abbrev pub invariant-loop : goal.invariant-loop
invariant-loop g l = record {
  left : l.self ≡ record l.fn.self { rows = slice_set l.fn.self.rows l.row (row_in l.self.rows l.row); free = l.self.free };
  count : length (row_in l.self.rows l.row) + l.counter ≡ length (row_in l.fn.self.rows l.row);
  matched : IsMatched g.B.Vop.vkind l.fn.self → IsMatched g.B.Vop.vkind l.self;
}
