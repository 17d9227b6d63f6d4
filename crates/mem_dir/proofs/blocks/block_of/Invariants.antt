use Rattle.std.proofs.Common.{◌≡◌, ◌≤◌, ◌<◌, ◌-◌, true, false, length}
use Rattle.mem_dir.specs.Records.{is_below, first_at}
use Rattle.mem_dir.proofs.blocks.block_of.Given as goal

-- the block at `low` does not begin behind the name, and the one at `high` does
abbrev pub invariant-loop-high : goal.invariant-loop-high
invariant-loop-high l = record {
  ordered : l.low < l.high;
  within : l.high ≤ length l.blocks;
  from : 0 < l.low → is_below l.name (first_at l.blocks l.low) ≡ false;
  to : l.high < length l.blocks → is_below l.name (first_at l.blocks l.high) ≡ true;
}

abbrev pub decreases-loop-high : goal.decreases-loop-high
decreases-loop-high l = l.high - l.low
