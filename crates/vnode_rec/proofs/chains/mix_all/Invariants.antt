use Rattle.std.proofs.Common.{◌≡◌, ◌<◌, ◌^◌, drop}
use Rattle.vnode_rec.specs.Chains.{mixed_all}
use Rattle.vnode_rec.proofs.chains.mix_all.Given as goal

abbrev pub invariant-loop-byte : goal.invariant-loop-byte
invariant-loop-byte l = (mixed_all l.hash (drop l.byte-index l.bytes) ≡ mixed_all l.start l.bytes) × (l.hash < 2 ^ 49)
