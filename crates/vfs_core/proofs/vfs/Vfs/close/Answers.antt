use Rattle.std.proofs.Common.{◌∙◌, ap, subst}
use Rattle.vfs_tree.specs.Limits.{IsCaller}
use Rattle.vfs_tree.specs.Start.{start_world}
use Rattle.vfs_tree.specs.declared.limits.Limits.{Limits}
use Rattle.call_model.specs.Legal.{Pending, IsLegal}
use Rattle.vfs_core.specs.Seats.{Sharing, has_number, known_calls}
use Rattle.vfs_core.proofs.SeatLaws.{knows_all, none_live}
use Rattle.vfs_core.proofs.vfs.Vfs.close.Goals as goal

pub returns-clause-idle : goal.returns-clause-idle
returns-clause-idle g c =
    let kern = c.close-kern.result in
    let same = c.close-kern.ensures.same ∙ ap (λ (v : Sharing). v.limits) c.self.view_is in
    let born = known_calls c.seat.inside.caller c.seat.inside.born.value in
    none_live kern.limits kern.pending c.limits-limits.ensures.within
    (λ n caller.
    let has = ap (has_number n) c.seat.view_is ∙ c.requires.all n (subst (λ (x : Limits). IsCaller x n) same caller) in
    (knows_all c.seat.inside.caller born c.seat.inside.pass kern n c.seat.invariant has c.close-kern.ensures.known).1)

pub returns-clause-legal : goal.returns-clause-legal
returns-clause-legal g c = subst (λ (m : Pending). IsLegal m (start_world c.close-kern.result.limits) c.close-kern.result.history) (returns-clause-idle g c) c.history-history.ensures.legal
