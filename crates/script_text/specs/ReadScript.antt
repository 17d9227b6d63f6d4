-- Reading scripts, up to the first line that isn't lawful at its place.
use Rattle.std.specs.Prelude.{ℕ, ◌+◌, ◌-◌, ◌*◌, Bool, true, false, not, ◌&&◌, nat_lt, nat_le, ◌==◌, if◌then◌else◌, List, [], ◌∷◌, codes, Option, Some, None, Result, Ok, Err}
use Rattle.std.specs.List.{slice_split}
use Rattle.std.specs.Str.{bytes_eq}
use Rattle.vfs_tree.specs.declared.limits.Limits.{Limits}
use Rattle.vfs_tree.specs.Limits.{holders}
use Rattle.call_model.specs.declared.call.Line.{Line}
use Rattle.script_text.specs.declared.script.Script.{Script}
use Rattle.script_text.specs.Reading.{◌>>=◌}
use Rattle.script_text.specs.ReadWord.{number_at}
use Rattle.script_text.specs.ReadCall.{line_at}
use Rattle.script_text.specs.Script.{default_limits}

-- ---- limits

-- from 1 to most
abbrev pub is_within : ℕ → ℕ → Bool
is_within n most = nat_lt 0 n && nat_le n most

-- the limits are lawful
abbrev pub is_lawful : Limits → Bool
is_lawful limits = is_within limits.callers 16 && (is_within limits.files 256 && (is_within limits.mounts 16 && (nat_le (9 * holders limits) limits.vnodes && nat_le limits.vnodes 4096)))

-- the limits, if they are lawful
abbrev pub lawful_only : Limits → Option Limits
lawful_only limits = if is_lawful limits then Some limits else None

-- the limits of the words after the first of a limits line
abbrev pub limits_from : List ℕ → List ℕ → List ℕ → List ℕ → Option Limits
limits_from p f m n = do
  callers ← number_at p
  files ← number_at f
  mounts ← number_at m
  vnodes ← number_at n
  lawful_only (record { callers = callers; files = files; mounts = mounts; vnodes = vnodes })

-- the limits of these words
unfoldable pub limits_in : List (List ℕ) → Option Limits
limits_in (word ∷ p ∷ f ∷ m ∷ n ∷ []) = if bytes_eq word (codes "limits") then limits_from p f m n else None
limits_in words = None

-- the limits of this line
unfoldable pub limits_at : List ℕ → Option Limits
limits_at text = limits_in (slice_split (λ b. b == 32) text)

-- ---- lines

-- no part is left
abbrev pub is_nil : List (List ℕ) → Bool
is_nil [] = true
is_nil (x ∷ xs) = false

-- nothing follows the last line end
abbrev pub is_rest : List (List ℕ) → Bool
is_rest ([] ∷ []) = true
is_rest rest = false

-- a call line, or the number of the bad line
abbrev pub call_line : ℕ → Option Line → Result (Option Line) ℕ
call_line number (Some line) = Ok (Some line)
call_line number None = Err number

-- the call of the line of this number, before the rest; none at the line `end`
unfoldable pub step_at : ℕ → Bool → ℕ → List ℕ → List (List ℕ) → Result (Option Line) ℕ
step_at callers full number text rest =
    if is_nil rest then Err number
    else (if bytes_eq text (codes "end") then (if is_rest rest then Ok None else Err (number + 1))
    else (if full then Err number else call_line number (line_at callers text)))

-- a line before those that are read after it
abbrev pub onto : Line → Result (List Line) ℕ → Result (List Line) ℕ
onto line (Ok lines) = Ok (line ∷ lines)
onto line (Err n) = Err n

-- what a step read, and what is read after it
abbrev pub with_step : Result (Option Line) ℕ → Result (List Line) ℕ → Result (List Line) ℕ
with_step (Ok (Some line)) more = onto line more
with_step (Ok None) more = Ok []
with_step (Err n) more = Err n

-- the call lines, which the line `end` ends
unfoldable pub lines_at : ℕ → ℕ → ℕ → List (List ℕ) → Result (List Line) ℕ
lines_at callers left number [] = Err number
lines_at callers left number (text ∷ rest) = with_step (step_at callers (left == 0) number text rest) (lines_at callers (left - 1) (number + 1) rest)

-- ---- all lines

-- the script of these limits
abbrev pub with_limits : Limits → Result (List Line) ℕ → Result Script ℕ
with_limits limits (Ok lines) = Ok (record { limits = limits; lines = lines })
with_limits limits (Err n) = Err n

-- the limits of the second line, if that is a limits line
unfoldable pub second_at : List (List ℕ) → Option Limits
second_at (text ∷ next ∷ rest) = limits_at text
second_at rest = None

-- what follows the limits line
abbrev pub after_second : List (List ℕ) → List (List ℕ)
after_second [] = []
after_second (text ∷ rest) = rest

-- the script whose lines after the first are these
abbrev pub body_by : Option Limits → List (List ℕ) → Result Script ℕ
body_by (Some limits) rest = with_limits limits (lines_at limits.callers 4096 3 (after_second rest))
body_by None rest = with_limits default_limits (lines_at 16 4096 2 rest)

-- all lines
unfoldable pub script_at : List (List ℕ) → Result Script ℕ
script_at [] = Err 1
script_at (text ∷ rest) = if bytes_eq text (codes "vfs 1") && not (is_nil rest) then body_by (second_at rest) rest else Err 1
