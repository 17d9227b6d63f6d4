use Rattle.std.proofs.Common.{◌<◌, ◌∙◌, ap, arith}
use Rattle.free_list.specs.Queue.{member}
use Rattle.free_list.proofs.Calls.{last_in_next, pushed_back}
use Rattle.free_list.proofs.list.FreeList.push_back.Goals as goal

pub index_mut-requires : goal.index_mut-requires
index_mut-requires c =
    let below : c.args.slot < c.self.inside.end = rw (ap (λ v. v.slots) c.self.view_is) c.requires.below in
    let within = last_in_next c.self.invariant c.args.slot below (ap (λ v. member c.args.slot v.queue) c.self.view_is ∙ c.requires.absent) c.index-last.result.now c.index-last.ensures in
    omega arith

pub invariant_of-self : goal.invariant_of-self
invariant_of-self c =
    let below : c.args.slot < c.self.inside.end = rw (ap (λ v. v.slots) c.self.view_is) c.requires.below in
    (pushed_back c.self.invariant c.args.slot below (ap (λ v. member c.args.slot v.queue) c.self.view_is ∙ c.requires.absent) c.index-last.result.now c.index-last.ensures).0

pub returns : goal.returns
returns c =
    let below : c.args.slot < c.self.inside.end = rw (ap (λ v. v.slots) c.self.view_is) c.requires.below in
    let done = pushed_back c.self.invariant c.args.slot below (ap (λ v. member c.args.slot v.queue) c.self.view_is ∙ c.requires.absent) c.index-last.result.now c.index-last.ensures in
    rw (← c.self.view_is) (ap (λ q. record { queue = q; slots = c.self.inside.end }) done.1)
