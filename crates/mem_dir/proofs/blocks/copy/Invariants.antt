use Rattle.std.proofs.Common.{◌≡◌, take}
use Rattle.std.specs.FinMap.{empty}
use Rattle.mem_dir.specs.Records.{joined, with_records}
use Rattle.mem_dir.proofs.blocks.copy.Given as goal

-- the records of the blocks so far
abbrev pub invariant-loop-block : goal.invariant-loop-block
invariant-loop-block l = l.names ≡ with_records empty (joined (take l.block-index l.blocks))
