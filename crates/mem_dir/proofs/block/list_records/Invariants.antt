use Rattle.std.proofs.Common.{◌≡◌, ◌++◌, take}
use Rattle.std.specs.List.{filter_map}
use Rattle.mem_dir.specs.Directory.{listed}
use Rattle.mem_dir.proofs.block.list_records.Given as goal

-- the names of the records so far were appended
abbrev pub invariant-loop-name : goal.invariant-loop-name
invariant-loop-name l = l.names.items ≡ l.fn.names.items ++ filter_map (listed l.white) (take l.name-index l.records)
