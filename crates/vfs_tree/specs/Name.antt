-- File names.
use Rattle.std.specs.Prelude.{ℕ, Bool, ◌&&◌, ◌||◌, not, ◌==◌, nat_lt, List, length, codes}
use Rattle.std.specs.Str.{bytes_eq}
use Rattle.std.specs.List.{list_all}
use Rattle.std.specs.Ordering.{nat_cmp}
use Rattle.std.specs.declared.cmp.Ordering.{Ordering}
use Rattle.std.specs.Cmp.Lexicographic.{slice_cmp}
use Rattle.std.specs.Coded.{Coded, coded_list, coded_ℕ}

-- no byte is a slash or zero
abbrev pub has_no_slash_or_zero : List ℕ → Bool
has_no_slash_or_zero bytes = list_all (λ b. not (b == 47) && not (b == 0)) bytes

-- 1 to 255 bytes
abbrev pub has_few : List ℕ → Bool
has_few bytes = nat_lt 0 (length bytes) && nat_lt (length bytes) 256

-- the directory itself, or its parent
abbrev pub is_dots : List ℕ → Bool
is_dots bytes = bytes_eq bytes (codes ".") || bytes_eq bytes (codes "..")

-- 1 to 255 bytes without a slash or a zero byte, neither `.` nor `..`
abbrev pub is_name : List ℕ → Bool
is_name bytes = has_few bytes && (not (is_dots bytes) && has_no_slash_or_zero bytes)

-- names by their bytes
abbrev pub name_cmp : List ℕ → List ℕ → Ordering
name_cmp = slice_cmp nat_cmp

-- the code of a name
abbrev pub coded_name : Coded (List ℕ)
coded_name = coded_list coded_ℕ
