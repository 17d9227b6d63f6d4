use Rattle.std.proofs.Common.{◌∙◌, ap, arith, length, length-append, [], ◌∷◌}
use Rattle.vnode_rec.specs.Holders.{row_in}
use Rattle.vnode_rec.proofs.Held.{left_again}
use Rattle.vnode_rec.proofs.table.VnodeTableOf.empty_row.Goals as goal

pub loop-preserved : goal.loop-preserved
loop-preserved g c =
    let shorter = ap length c.let_go.ensures.after.was ∙ length-append (row_in c.let_go.new.self.rows c.args.row) (c.let_go.result ∷ []) in
    let count = c.loop.invariant.count in
    record {
      left = left_again c.args.self.now c.loop.self c.let_go.new.self c.args.row c.let_go.result c.loop.invariant.left c.let_go.ensures.after;
      count = omega (arith, shorter, count);
      matched = λ m. c.let_go.ensures.matched (c.loop.invariant.matched m);
    }
