use Rattle.std.proofs.Common.{◌≡◌, take}
use Rattle.mem_dir.specs.Records.{with_records}
use Rattle.mem_dir.proofs.block.copy_records.Given as goal

-- the records so far were put
abbrev pub invariant-loop-name : goal.invariant-loop-name
invariant-loop-name l = l.names ≡ with_records l.fn.names (take l.name-index l.records)
