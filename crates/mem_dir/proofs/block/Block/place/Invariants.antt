use Rattle.std.proofs.Common.{◌≡◌, ◌≤◌, ◌<◌, ◌-◌, true, false, length}
use Rattle.mem_dir.specs.Records.{is_below, name_at}
use Rattle.mem_dir.proofs.block.Block.place.Given as goal

-- the name before `low` is below the name that is looked for, and the one at `high` is not
abbrev pub invariant-loop-low : goal.invariant-loop-low
invariant-loop-low l = record {
  ordered : l.low ≤ l.high;
  within : l.high ≤ length l.self;
  below : 0 < l.low → is_below (name_at l.self (l.low - 1)) l.name ≡ true;
  from : l.high < length l.self → is_below (name_at l.self l.high) l.name ≡ false;
}

abbrev pub decreases-loop-low : goal.decreases-loop-low
decreases-loop-low l = l.high - l.low
