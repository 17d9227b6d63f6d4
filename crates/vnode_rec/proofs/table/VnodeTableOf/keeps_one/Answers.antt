use Rattle.std.proofs.Common.{◌≢◌, [], subst}
use Rattle.vnode_rec.specs.Vnodes.{Table, AreFilled, HasRoom}
use Rattle.vnode_rec.proofs.Pigeons.{one_is_free}
use Rattle.vnode_rec.proofs.table.VnodeTableOf.keeps_one.Goals as goal

pub returns : goal.returns
returns g c =
    let f = c.self.inside in
    subst (λ (t : Table g.row.B.Denot). HasRoom t.rows → AreFilled t.slots → t.free.queue ≢ []) c.self.view_is
    (one_is_free f.slots.items f.holders f.free f.empty f.chains.place f.chains.slots f.chains.chains f.rack c.self.invariant c.keep_rows.ensures.nine)
