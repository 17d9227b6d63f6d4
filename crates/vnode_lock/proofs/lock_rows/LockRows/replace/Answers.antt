use Rattle.std.proofs.Common.{◌<◌, ◌∙◌, [], ap, sym, length, get_or}
use Rattle.vnode_lock.specs.Listed.{moved, vids_of}
use Rattle.vnode_lock.proofs.Rows.{vids_with, vids_at}
use Rattle.vnode_lock.proofs.lock_rows.LockRows.replace.Goals as goal

pub returns : goal.returns
returns c =
    let lists = c.self.inside.lists.items in
    let move = moved c.args.from c.args.to in
    let within : c.args.caller < length (vids_of lists) = rw (ap (λ v. v.rows) c.self.view_is) c.requires.caller in
    let read = vids_at lists c.args.caller c.index_mut.result.now within c.index_mut.ensures.value in
    let is = ap (λ l. l.vids) c.replace.ensures ∙ ap move (sym read) in
    rw (← c.self.view_is) (ap (λ rows. record { rows = rows; slots = c.self.inside.slots }) (vids_with lists c.args.caller c.replace.new.self (move (get_or (vids_of lists) c.args.caller [])) is))
