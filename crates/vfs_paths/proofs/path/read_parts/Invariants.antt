use Rattle.std.proofs.Common.{◌≡◌, ◌++◌, true, drop, map, filter}
use Rattle.std.specs.List.{list_all}
use Rattle.vfs_tree.specs.Path.{components}
use Rattle.vfs_tree.specs.Paths.{component_of}
use Rattle.vfs_paths.specs.Parts.{is_part}
use Rattle.vfs_paths.proofs.Parts.{is_some_part}
use Rattle.vfs_paths.proofs.path.read_parts.Given as goal

-- the components so far and those of the parts that are left, which are lawful
abbrev pub invariant-loop-at : goal.invariant-loop-at
invariant-loop-at l =
    (l.parts.items ++ map component_of (filter is_some_part (map (λ part. part.now) (drop l.at l.cut.items))) ≡ map component_of (components l.bytes))
    × (list_all is_part (map (λ part. part.now) (drop l.at l.cut.items)) ≡ true)
