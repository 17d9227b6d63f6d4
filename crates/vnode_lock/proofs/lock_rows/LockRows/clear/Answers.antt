use Rattle.std.proofs.Common.{[], ap}
use Rattle.vnode_lock.proofs.Rows.{vids_with}
use Rattle.vnode_lock.proofs.lock_rows.LockRows.clear.Goals as goal

pub returns : goal.returns
returns c = rw (← c.self.view_is) (ap (λ rows. record { rows = rows; slots = c.self.inside.slots }) (vids_with c.self.inside.lists.items c.args.caller c.clear.new.self [] (ap (λ l. l.vids) c.clear.ensures)))
