-- Places that turn from a file of a union's lower layer to its copy.
use Rattle.std.specs.Prelude.{Bool, false}
use Rattle.vfs_tree.specs.Place.{Seen, Mem, Null, UnionUp, UnionLow}
use Rattle.vfs_tree.specs.Layers.{same_place}

-- whether a place is one of a union's lower layer, and the same as the other
abbrev pub is_turned : Seen → Seen → Bool
is_turned from (Mem m i) = false
is_turned from (Null m p) = false
is_turned from (UnionUp m i) = false
is_turned from (UnionLow m u n p) = same_place from (UnionLow m u n p)
