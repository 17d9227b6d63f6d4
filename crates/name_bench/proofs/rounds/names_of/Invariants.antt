use Rattle.std.proofs.Common.{◌≡◌, vec_len}
use Rattle.name_bench.proofs.rounds.names_of.Given as goal

abbrev pub invariant-loop-k : goal.invariant-loop-k
invariant-loop-k l = vec_len l.names ≡ l.k
