use Rattle.std.proofs.Common.{◌∙◌, ap, arith}
use Rattle.free_list.specs.Queue.{member}
use Rattle.free_list.proofs.Calls.{slot_in_next, slot_in_prev, before_in_next, after_in_prev, removed}
use Rattle.free_list.proofs.list.FreeList.remove.Goals as goal

pub index-before-requires : goal.index-before-requires
index-before-requires c = let h = slot_in_prev c.self.invariant c.args.slot (ap (λ v. member c.args.slot v.queue) c.self.view_is ∙ c.requires) in omega arith

pub index-after-requires : goal.index-after-requires
index-after-requires c = let h = slot_in_next c.self.invariant c.args.slot (ap (λ v. member c.args.slot v.queue) c.self.view_is ∙ c.requires) in omega arith

pub index_mut-requires : goal.index_mut-requires
index_mut-requires c = let h = before_in_next c.self.invariant c.args.slot (ap (λ v. member c.args.slot v.queue) c.self.view_is ∙ c.requires) c.index-before.result.now c.index-before.ensures in omega arith

pub index_mut-requires-2 : goal.index_mut-requires-2
index_mut-requires-2 c = let h = after_in_prev c.self.invariant c.args.slot (ap (λ v. member c.args.slot v.queue) c.self.view_is ∙ c.requires) c.index-after.result.now c.index-after.ensures in omega arith

pub index_mut-requires-3 : goal.index_mut-requires-3
index_mut-requires-3 c = let h = slot_in_next c.self.invariant c.args.slot (ap (λ v. member c.args.slot v.queue) c.self.view_is ∙ c.requires) in omega arith

pub index_mut-requires-4 : goal.index_mut-requires-4
index_mut-requires-4 c = let h = slot_in_prev c.self.invariant c.args.slot (ap (λ v. member c.args.slot v.queue) c.self.view_is ∙ c.requires) in omega arith

pub invariant_of-self : goal.invariant_of-self
invariant_of-self c = (removed c.self.invariant c.args.slot (ap (λ v. member c.args.slot v.queue) c.self.view_is ∙ c.requires) c.index-before.result.now c.index-after.result.now c.index-before.ensures c.index-after.ensures).0

pub returns : goal.returns
returns c =
    let done = removed c.self.invariant c.args.slot (ap (λ v. member c.args.slot v.queue) c.self.view_is ∙ c.requires) c.index-before.result.now c.index-after.result.now c.index-before.ensures c.index-after.ensures in
    rw (← c.self.view_is) (ap (λ q. record { queue = q; slots = c.self.inside.end }) done.1)
