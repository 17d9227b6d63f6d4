-- The parts of a path between slashes.
use Rattle.std.specs.Prelude.{ℕ, Bool, ◌&&◌, nat_lt, List, length}
use Rattle.vfs_tree.specs.Name.{has_no_slash_or_zero}

-- a part that is not too long, without a slash or a zero byte
abbrev pub is_part : List ℕ → Bool
is_part part = nat_lt (length part) 256 && has_no_slash_or_zero part
