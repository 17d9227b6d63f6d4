use Rattle.std.proofs.Common.{◌≡◌, ◌<◌, ◌∷◌, All, nat_eq, subst}
use Rattle.std.specs.List.{IsDistinct}
use Rattle.free_list.specs.Queue.{Queue, without}
use Rattle.free_list.proofs.Calls.{lists_below, lists_distinct, some_at_front}
use Rattle.free_list.proofs.list.FreeList.front.Goals as goal

pub returns-then-front-self-clause-distinct : goal.returns-then-front-self-clause-distinct
returns-then-front-self-clause-distinct c = subst (λ (v : Queue). IsDistinct nat_eq v.queue) c.self.view_is (lists_distinct c.self.invariant)

pub returns-else-front-self-clause-front : goal.returns-else-front-self-clause-front
returns-else-front-self-clause-front c =
    let front = c.index-front.result.now in
    subst (λ (v : Queue). v.queue ≡ front ∷ without front v.queue) c.self.view_is (some_at_front c.self.invariant front c.index-front.ensures c.if-front-self.false).2

pub returns-else-front-self-clause-below : goal.returns-else-front-self-clause-below
returns-else-front-self-clause-below c = subst (λ (v : Queue). All (λ slot. slot < v.slots) v.queue) c.self.view_is (lists_below c.self.invariant)

pub returns-else-front-self-clause-distinct : goal.returns-else-front-self-clause-distinct
returns-else-front-self-clause-distinct c = subst (λ (v : Queue). IsDistinct nat_eq v.queue) c.self.view_is (lists_distinct c.self.invariant)
