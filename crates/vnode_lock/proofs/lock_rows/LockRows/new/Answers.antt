use Rattle.std.proofs.Common.{◌≡◌, ◌+◌, ◌∙◌, [], ap, replicate, arith}
use Rattle.vnode_lock.specs.Listed.{Listed, vids_of}
use Rattle.vnode_lock.proofs.Rows.{vids_of_empty}
use Rattle.vnode_lock.proofs.lock_rows.LockRows.new.Goals as goal

pub returns : goal.returns
returns c =
    let all : c.loop.counter ≡ c.args.callers + 1 = omega arith in
    let empty = λ (n : _). replicate n (let l : Listed = record { vids = []; slots = c.args.slots } in l) in
    let shown = ap vids_of (c.loop.invariant ∙ ap empty all) ∙ vids_of_empty (c.args.callers + 1) c.args.slots in
    ap (λ rows. record { rows = rows; slots = c.args.slots }) shown
