use Rattle.std.proofs.Common.{◌≡◌, take}
use Rattle.std.specs.List.{filter_map}
use Rattle.mem_dir.specs.Directory.{listed}
use Rattle.mem_dir.specs.Records.{joined}
use Rattle.mem_dir.proofs.blocks.list.Given as goal

-- the names of the blocks so far
abbrev pub invariant-loop-block : goal.invariant-loop-block
invariant-loop-block l = l.names.items ≡ filter_map (listed l.white) (joined (take l.block-index l.blocks))
