use Rattle.std.proofs.Common.{◌≡◌, ◌≤◌, ◌*◌}
use Rattle.name_bench.proofs.rounds.run.Given as goal

abbrev pub invariant-loop-turn : goal.invariant-loop-turn
invariant-loop-turn l = (l.found ≡ l.fn.count * l._turn) × (l.found ≤ 100000 * l._turn)
