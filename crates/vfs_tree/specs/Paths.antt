-- Paths as callers write them.
use Rattle.std.specs.Prelude.{ℕ, Bool, ◌||◌, ◌==◌, nat_lt, if◌then◌else◌, List, [], ◌∷◌, length, map, codes}
use Rattle.std.specs.List.{list_any}
use Rattle.std.specs.Str.{bytes_eq}
use Rattle.vfs_tree.specs.Path.{components, is_absolute}
use Rattle.vfs_tree.specs.Steps.{Step, Go, ◌>>=◌, ◌>>◌, refuse_if}
use Rattle.vfs_tree.specs.declared.errno.Errno.TheVariants as errno
use Rattle.vfs_tree.specs.declared.walk.Component.{Component}
use Rattle.vfs_tree.specs.declared.walk.Component.TheVariants.{Dot, DotDot, Name}

-- a path: whether it begins at the root directory, and its components
pub record Path : Type 0 where
  pub absolute : Bool
  pub parts : List Component

-- `.`, `..` or a name
abbrev pub component_of : List ℕ → Component
component_of part = if bytes_eq part (codes ".") then Dot else (if bytes_eq part (codes "..") then DotDot else Name part)

-- no byte at all
abbrev pub is_empty : List ℕ → Bool
is_empty bytes = length bytes == 0

-- a path ends where a zero byte stands, so none may stand in it
abbrev pub has_zero : List ℕ → Bool
has_zero bytes = list_any (λ b. b == 0) bytes

-- over 1,023 bytes, or a component of over 255
abbrev pub is_too_long : List ℕ → Bool
is_too_long bytes = nat_lt 1023 (length bytes) || list_any (λ part. nat_lt 255 (length part)) (components bytes)

-- the path that bytes spell, or why they are none
abbrev pub parse : {W : Type 0} → List ℕ → Step Path W
parse bytes = do
  refuse_if (is_empty bytes) errno.ENOENT
  refuse_if (has_zero bytes) errno.EINVAL
  refuse_if (is_too_long bytes) errno.ENAMETOOLONG
  Go (record { absolute = is_absolute bytes; parts = map component_of (components bytes) })
