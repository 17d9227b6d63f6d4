use Rattle.std.proofs.Common.{sym, subst}
use Rattle.vfs_tree.specs.Limits.{IsCaller}
use Rattle.std.specs.Prelude.{None, ◌≡◌}
use Rattle.std.specs.FinMap.{get}
use Rattle.vfs_core.specs.Work.{Work}
use Rattle.vfs_core.specs.Turning.{Begins}
use Rattle.vfs_core.proofs.TurnLaws.{begins-next, running-next}
use Rattle.vfs_core.proofs.job.Job.begin.Goals as goal

pub invariant_of-self : goal.invariant_of-self
invariant_of-self c =
    let caller = subst (λ (j : Work). IsCaller j.kern.limits c.args.caller) (sym c.self.view_is) c.requires.caller in
    let idle = subst (λ (j : Work). get j.kern.pending c.args.caller ≡ None) (sym c.self.view_is) c.requires.idle in
    running-next _ _ _ _ _ c.args.caller _ _ _ c.self.invariant caller idle c.in-Some.ensures.value (c.get_mut.follows.holds _) c.begin_next.ensures

pub returns-in-Some-clause-begun : goal.returns-in-Some-clause-begun
returns-in-Some-clause-begun c =
    let idle = subst (λ (j : Work). get j.kern.pending c.args.caller ≡ None) (sym c.self.view_is) c.requires.idle in
    let next = begins-next _ _ _ _ c.self.inside.order.items c.args.caller _ _ _ idle c.in-Some.ensures.value (c.get_mut.follows.holds _) c.begin_next.ensures in
    subst (λ (j : Work). Begins j (record { kern = c.begin_next.new.kern; left = c.get_mut.follows.lender c.begin_next.new.self; order = c.self.inside.order.items }) c.args.caller c.begin_next.result) c.self.view_is next

pub returns-in-Some-clause-legal : goal.returns-in-Some-clause-legal
returns-in-Some-clause-legal c = (invariant_of-self c).legal
