use Rattle.std.proofs.Common.{◌≡◌, ◌<◌, true, sym, subst}
use Rattle.vnode_lock.specs.Locks.{Locks, IsNowhereExclusive, shared_of, locks_of}
use Rattle.vnode_lock.specs.Listed.{has_slot}
use Rattle.vnode_lock.proofs.Laws.{moved_lawful}
use Rattle.vnode_lock.proofs.lock_table.LockTable.move_shared.Goals as goal

pub invariant_of-self : goal.invariant_of-self
invariant_of-self c =
    let caller = c.args.caller in
    let from = c.args.from in
    let to = c.args.to in
    let locks = locks_of c.self.inside.shared c.self.inside.exclusive c.self.inside.slots c.self.inside.callers in
    let held = subst (λ (v : Locks). has_slot from.slot (shared_of caller v) ≡ true) (sym c.self.view_is) c.requires.held in
    let free = subst (λ (v : Locks). IsNowhereExclusive v to) (sym c.self.view_is) c.requires.free in
    let below = subst (λ (v : Locks). to.slot < v.slots) (sym c.self.view_is) c.requires.below in
    rw c.replace.ensures (record {
      lawful = moved_lawful locks caller from to c.self.invariant.lawful held free below;
      shared_slots = c.self.invariant.shared_slots;
      exclusive_slots = c.self.invariant.exclusive_slots;
    })

pub returns-clause-lawful : goal.returns-clause-lawful
returns-clause-lawful c = (invariant_of-self c).lawful
