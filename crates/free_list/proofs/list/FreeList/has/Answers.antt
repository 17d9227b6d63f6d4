use Rattle.std.proofs.Common.{◌<◌, ◌∙◌, ap}
use Rattle.free_list.specs.Queue.{member}
use Rattle.free_list.proofs.Calls.{tells}
use Rattle.free_list.proofs.list.FreeList.has.Goals as goal

pub returns : goal.returns
returns c =
    let below : c.args.slot < c.self.inside.end = rw (ap (λ v. v.slots) c.self.view_is) c.requires in
    tells c.self.invariant c.args.slot c.index.result.now below c.index.ensures ∙ ap (λ v. member c.args.slot v.queue) c.self.view_is
