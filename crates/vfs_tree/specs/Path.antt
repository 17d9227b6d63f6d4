-- The texts of paths.
use Rattle.std.specs.Prelude.{ℕ, Bool, ◌&&◌, ◌==◌, nat_lt, List, length, filter, slice_index}
use Rattle.std.specs.List.{slice_split, list_all}
use Rattle.vfs_tree.specs.Name.{is_name}

-- the components of a path: its parts between slashes that are not empty
abbrev pub components : List ℕ → List (List ℕ)
components path = filter (λ part. nat_lt 0 (length part)) (slice_split (λ b. b == 47) path)

-- the path begins with a slash
abbrev pub is_absolute : List ℕ → Bool
is_absolute path = slice_index path 0 == 47

-- an absolute path of at most 1,023 bytes whose components are names
abbrev pub is_name_path : List ℕ → Bool
is_name_path path = is_absolute path && (nat_lt (length path) 1024 && list_all is_name (components path))
