use Rattle.std.proofs.Common.{◌≡◌, ◌+◌, ◌≤◌, ◌-◌, ◌++◌, reverse, length}
use Rattle.std.specs.Prelude.{vec_len, vec_capacity}
use Rattle.mem_dir.proofs.block.move_back.Given as goal

-- what was moved stands there from the last on
abbrev pub invariant-loop-from : goal.invariant-loop-from
invariant-loop-from l = record {
  moved : l.from.items ++ reverse l.to.items ≡ l.fn.from.items;
  half : 32 ≤ vec_len l.from;
  count : vec_len l.from + vec_len l.to ≡ 64;
  room : 64 ≤ vec_capacity l.to;
  kept : vec_capacity l.from ≡ vec_capacity l.fn.from;
}

abbrev pub decreases-loop-from : goal.decreases-loop-from
decreases-loop-from l = vec_len l.from - 32
