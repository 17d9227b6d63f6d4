-- The script that is made of a number.
use Rattle.std.specs.Prelude.{ℕ, ◌+◌, ◌*◌, ◌/◌, ◌%◌, ◌^◌, ◌==◌, nat_lt, true, false, if◌then◌else◌, List, [], ◌∷◌, ◌++◌, take, map, codes, pos}
use Rattle.std.specs.List.{range_with_len}
use Rattle.turn_order.specs.Scattering.{mix}
use Rattle.call_model.specs.declared.call.Access.TheVariants as access
use Rattle.call_model.specs.declared.call.Flags.{Flags}
use Rattle.call_model.specs.declared.call.Whence.TheVariants.{Set}
use Rattle.call_model.specs.declared.call.Call.{Call}
use Rattle.call_model.specs.declared.call.Call.TheVariants as call
use Rattle.call_model.specs.declared.call.Line.{Line}

-- ---- what a scattered word chooses

-- the directory of this number
abbrev pub directory : ℕ → List ℕ
directory v = if v == 0 then codes "/base" else (if v == 1 then codes "/view" else (if v == 2 then codes "/up" else codes "/base/d0"))

-- the file of this number below 8 in the directory of this number
abbrev pub file_path : ℕ → ℕ → List ℕ
file_path v w = directory v ++ (codes "/f" ++ (48 + w) ∷ [])

-- the path X of the table
unfoldable pub first_path : ℕ → List ℕ
first_path r = file_path (r / 2 ^ 8 % 4) (r / 2 ^ 16 % 8)

-- the path Y of the table
unfoldable pub second_path : ℕ → List ℕ
second_path r = file_path (r / 2 ^ 24 % 4) (r / 2 ^ 32 % 8)

-- the descriptor
abbrev pub chosen_descriptor : ℕ → ℕ
chosen_descriptor r = r / 2 ^ 40 % 4

-- the number
abbrev pub chosen_number : ℕ → ℕ
chosen_number r = r / 2 ^ 48 % 256

-- the bytes to write
unfoldable pub chosen_bytes : ℕ → List ℕ
chosen_bytes r = take (chosen_number r % 8 + 1) (codes "abcdefgh")

-- ---- the calls

-- for reading and writing, and made where it is missing
abbrev pub for_both : Flags
for_both = record { access = access.Both; make = true; fresh = false; cut = false; append = false; dir = false }

-- for reading
abbrev pub for_reading : Flags
for_reading = record { access = access.Read; make = false; fresh = false; cut = false; append = false; dir = false }

-- the first eight calls, which make four directories, two mounts over them and an open file
abbrev pub setup_call : ℕ → Call
setup_call j =
    if j == 0 then call.Mkdir (codes "/base")
    else (if j == 1 then call.Mkdir (codes "/up")
    else (if j == 2 then call.Mkdir (codes "/view")
    else (if j == 3 then call.Mkdir (codes "/base/d0")
    else (if j == 4 then call.MountMem (codes "/up")
    else (if j == 5 then call.MountUnion (codes "/up") (codes "/base")
    else (if j == 6 then call.MountNull (codes "/base") (codes "/view")
    else call.Open (codes "/base/f0") for_both))))))

-- the rows 0 to 7 of the table of calls
abbrev pub low_row : ℕ → ℕ → Call
low_row row r =
    if row == 0 then call.Mkdir (first_path r)
    else (if row == 1 then call.Rmdir (first_path r)
    else (if row == 2 then call.Open (first_path r) for_both
    else (if row == 3 then call.Open (first_path r) for_reading
    else (if row == 4 then call.Close (chosen_descriptor r)
    else (if row == 5 then call.Read (chosen_descriptor r) (chosen_number r)
    else (if row == 6 then call.Write (chosen_descriptor r) (chosen_bytes r)
    else call.Lseek (chosen_descriptor r) Set (pos (chosen_number r))))))))

-- the last row: `umountforce` where the number is 0, `revoke` where it is odd, else `lstat`
abbrev pub last_row : ℕ → Call
last_row r =
    if chosen_number r == 0 then call.UmountForce (codes "/view")
    else (if chosen_number r % 2 == 1 then call.Revoke (first_path r) else call.Lstat (second_path r))

-- the rows 8 to 15 of the table of calls
abbrev pub high_row : ℕ → ℕ → Call
high_row row r =
    if row == 8 then call.Truncate (first_path r) (chosen_number r)
    else (if row == 9 then call.Stat (first_path r)
    else (if row == 10 then call.Unlink (first_path r)
    else (if row == 11 then call.Rename (first_path r) (second_path r)
    else (if row == 12 then call.Link (first_path r) (second_path r)
    else (if row == 13 then call.Readdir (chosen_descriptor r)
    else (if row == 14 then call.Undelete (first_path r)
    else last_row r))))))

-- the row that the word chooses
abbrev pub chosen_call : ℕ → Call
chosen_call r = if nat_lt (r % 16) 8 then low_row (r % 16) r else high_row (r % 16) r

-- ---- the lines

-- line j, counted from 0: the first eight are of caller 1, the later ones of the callers 1 to 4 in turn
unfoldable pub gen_line : ℕ → ℕ → Line
gen_line seed j =
    if nat_lt j 8 then record { caller = 1; call = setup_call j }
    else record { caller = 1 + j % 4; call = chosen_call (mix seed j) }

-- so many lines of this seed
unfoldable pub gen_lines : ℕ → ℕ → List Line
gen_lines seed calls = map (gen_line seed) (range_with_len 0 calls)
