use Rattle.std.proofs.Common.{◌≡◌, ◌∙◌, sym, ap, false}
use Rattle.free_list.specs.Queue.{member}
use Rattle.free_list.proofs.Queues.{without_none}
use Rattle.free_list.proofs.list.FreeList.discard.Goals as goal

pub returns-else-has : goal.returns-else-has
returns-else-has c =
    let out : member c.args.slot c.args.self.now.queue ≡ false = sym c.has.ensures ∙ c.if-has.false in
    ap (λ q. record { queue = q; slots = c.args.self.now.slots }) (sym (without_none c.args.slot c.args.self.now.queue out))
