use Rattle.std.proofs.Common.{◌≡◌, ◌≤◌, take}
use Rattle.std.specs.List.{count_by}
use Rattle.vfs_tree.specs.StoreEdits.{entry_of}
use Rattle.name_bench.specs.Found.{gives}
use Rattle.name_bench.proofs.rounds.find_each.Given as goal

abbrev pub invariant-loop-name : goal.invariant-loop-name
invariant-loop-name l =
    (l.found ≡ count_by (λ n. gives l.file (entry_of l.fn.fs.store 1 n)) (take l.name-index l.names)) × (l.fs.store ≡ l.fn.fs.store) × (l.found ≤ l.name-index)
