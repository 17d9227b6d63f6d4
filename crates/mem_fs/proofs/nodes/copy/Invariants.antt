use Rattle.std.proofs.Common.{◌≡◌}
use Rattle.std.specs.Prelude.{Some}
use Rattle.std.specs.List.{filter_map}
use Rattle.finite_maps.proofs.EntryLaws.{put_all}
use Rattle.mem_fs.specs.declared.inode.Inode.{Inode}
use Rattle.mem_fs.specs.Inodes.{kept_entry, node_of, nodes_of}
use Rattle.mem_fs.proofs.nodes.copy.Given as goal

-- what is copied, and after it what is left, make the nodes of the store
abbrev pub invariant-loop-number : goal.invariant-loop-number
invariant-loop-number l =
    goal.iterator-loop-number.can_next l.number-iterator ×
    goal.iterator-loop-number.is_finite l.number-iterator ×
    (put_all l.copy (filter_map (kept_entry (λ (x : Inode). Some (node_of x))) l.number-iterator) ≡ nodes_of l.nodes)
