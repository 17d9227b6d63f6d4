use Rattle.std.proofs.Common.{◌≡◌}
use Rattle.finite_maps.proofs.EntryLaws.{put_all}
use Rattle.vfs_tree.proofs.name_map.NameMapDuplicate.duplicate.Given as goal

-- what is copied, and after it what is left, make the map
abbrev pub invariant-loop-key : goal.invariant-loop-key
invariant-loop-key g l =
    (goal.iterator-loop-key g).can_next l.key-iterator ×
    (goal.iterator-loop-key g).is_finite l.key-iterator ×
    (put_all l.copy l.key-iterator ≡ l.self)
