use Rattle.std.specs.Option.{option_copied}
use Rattle.vnode_rec.specs.Identity.{identity}
use Rattle.vnode_rec.proofs.Walk.{Walking}
use Rattle.vnode_rec.proofs.chains.Chains.find.Given as goal

abbrev pub invariant-loop : goal.invariant-loop
invariant-loop g l = Walking l.self.next l.self.place l.self.slots l.chain (identity l.vd (option_copied l.name)) l.slots l.at l.counter
