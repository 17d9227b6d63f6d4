use Rattle.std.proofs.Common.{◌≡◌, ◌<◌, ◌++◌, true, false, ◌∙◌, ap, length, take, drop, set}
use Rattle.std.proofs.lemmas.List.{take_at, length-set, length-map}
use Rattle.vnode_lock.specs.Listed.{has_slot, moved, replaced}
use Rattle.vnode_lock.proofs.Marks.{marked_moved, marked_within, below_moved}
use Rattle.vnode_lock.proofs.lock_list.LockList.replace.Goals as goal

pub invariant_of-self : goal.invariant_of-self
invariant_of-self c =
    let from = c.args.from in
    let to = c.args.to in
    let vids = c.self.inside.vids.items in
    let marks = c.self.inside.marks.items in
    let listed : has_slot from.slot vids ≡ true = ap (λ v. has_slot from.slot v.vids) c.self.view_is ∙ c.requires.listed in
    let to_in : to.slot < length marks = rw (ap (λ v. v.slots) c.self.view_is) c.requires.below in
    let from_in = marked_within marks from.slot (c.self.invariant.marked from.slot ∙ listed) in
    let len : length c.replace_each.new.vids ≡ c.self.inside.vids.len = ap length c.replace_each.ensures ∙ (length-map c.as_mut_slice.result.now (replaced from to) ∙ c.as_mut_slice.ensures.len) in
    let is : take c.self.inside.vids.len (c.replace_each.new.vids ++ drop (length c.replace_each.new.vids) vids) ≡ moved from to vids =
    take_at c.replace_each.new.vids (drop (length c.replace_each.new.vids) vids) c.self.inside.vids.len len ∙ (c.replace_each.ensures ∙ ap (moved from to) c.as_mut_slice.ensures.value) in
    rw is (record {
      marked = marked_moved from to vids marks c.self.invariant.marked listed from_in to_in;
      below = rw (length-set (set marks from.slot false) to.slot true, length-set marks from.slot false) (below_moved from to (length marks) vids to_in c.self.invariant.below);
      room = c.self.invariant.room;
    })
