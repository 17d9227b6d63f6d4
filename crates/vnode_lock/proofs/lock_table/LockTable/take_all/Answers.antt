use Rattle.std.proofs.Common.{sym, subst}
use Rattle.vnode_lock.specs.Locks.{Locks, IsCaller, AreFree, locks_of}
use Rattle.vnode_lock.specs.Listed.{AreBelow}
use Rattle.vnode_lock.proofs.Laws.{taken_lawful}
use Rattle.vnode_lock.proofs.lock_table.LockTable.take_all.Goals as goal

pub invariant_of-self : goal.invariant_of-self
invariant_of-self c =
    let caller = c.args.caller in
    let shared = c.args.shared.now in
    let exclusive = c.args.exclusive.now in
    let locks = locks_of c.self.inside.shared c.self.inside.exclusive c.self.inside.slots c.self.inside.callers in
    let is_caller = subst (λ (v : Locks). IsCaller caller v) (sym c.self.view_is) c.requires.caller in
    let free = subst (λ (v : Locks). AreFree v caller shared exclusive) (sym c.self.view_is) c.in_default.ensures in
    let shared_below = subst (λ (v : Locks). AreBelow v.slots shared) (sym c.self.view_is) c.requires.shared_below in
    let exclusive_below = subst (λ (v : Locks). AreBelow v.slots exclusive) (sym c.self.view_is) c.requires.exclusive_below in
    rw (c.fill.ensures, c.fill-2.ensures) (record {
      lawful = taken_lawful locks caller shared exclusive c.self.invariant.lawful is_caller free shared_below exclusive_below;
      shared_slots = c.self.invariant.shared_slots;
      exclusive_slots = c.self.invariant.exclusive_slots;
    })

pub returns-clause-lawful : goal.returns-clause-lawful
returns-clause-lawful c = (invariant_of-self c).lawful
