-- The texts of a script, and what has one.
use Rattle.std.specs.Prelude.{◌≡◌, ℕ, ◌≤◌, Bool, ◌&&◌, ◌==◌, if◌then◌else◌, ◌⊎◌, List, [], ◌∷◌, ◌++◌, length, map, codes, decimal, Result, Ok, Err}
use Rattle.std.specs.List.{join_with_byte, AllByRecursion}
use Rattle.vfs_tree.specs.declared.limits.Limits.{Limits}
use Rattle.vfs_tree.specs.Limits.{IsLawful}
use Rattle.call_model.specs.declared.call.Line.{Line}
use Rattle.script_text.specs.declared.fault.ScriptFault.{ScriptFault}
use Rattle.script_text.specs.declared.fault.ScriptFault.TheVariants.{BadLine, NoMemory}
use Rattle.script_text.specs.declared.script.Script.{Script}
use Rattle.script_text.specs.Line.{line_text}
use Rattle.script_text.specs.Fits.{FitsLine}

-- ---- limits

-- 16 callers, 256 open descriptors, 16 mounts and 4,096 vnodes
abbrev pub default_limits : Limits
default_limits = record { callers = 16; files = 256; mounts = 16; vnodes = 4096 }

-- the limits of a script that names none
abbrev pub is_default : Limits → Bool
is_default limits = (limits.callers == 16) && ((limits.files == 256) && ((limits.mounts == 16) && (limits.vnodes == 4096)))

-- the words of the limits line
abbrev pub limits_words : Limits → List (List ℕ)
limits_words limits = codes "limits" ∷ decimal limits.callers ∷ decimal limits.files ∷ decimal limits.mounts ∷ decimal limits.vnodes ∷ []

-- the limits line, without its line end
unfoldable pub limits_text : Limits → List ℕ
limits_text limits = join_with_byte 32 (limits_words limits)

-- ---- texts

-- the call lines and the last line; what stands after the last line end is empty
abbrev pub call_lines : List Line → List (List ℕ)
call_lines lines = map line_text lines ++ (codes "end" ∷ [] ∷ [])

-- the text without a limits line
unfoldable pub short_text : Script → List ℕ
short_text script = join_with_byte 10 (codes "vfs 1" ∷ call_lines script.lines)

-- the text with the limits line
unfoldable pub whole_text : Script → List ℕ
whole_text script = join_with_byte 10 (codes "vfs 1" ∷ limits_text script.limits ∷ call_lines script.lines)

-- the text of a script, in which default limits are left out
unfoldable pub script_text : Script → List ℕ
script_text script = if is_default script.limits then short_text script else whole_text script

-- what the call lines follow: the first line, and the limits line unless the limits are the default ones
abbrev pub head_text : Limits → List ℕ
head_text limits = codes "vfs 1" ++ (10 ∷ (if is_default limits then [] else limits_text limits ++ 10 ∷ []))

-- the bytes are a text of the script: its text, or the one in which default limits are spelled out
abbrev pub IsTextOf : Script → List ℕ → Type 0
IsTextOf script bytes = (bytes ≡ script_text script) ⊎ (bytes ≡ whole_text script)

-- ---- what has a text

-- the script has a text
pub record HasText (script : Script) : Type 0 where
  pub limits : IsLawful script.limits
  pub count : length script.lines ≤ 4096
  pub each : AllByRecursion (FitsLine script.limits.callers) script.lines

-- the answer is this script, unless memory ran out
abbrev pub Answers : Result Script ScriptFault → Script → Type 0
Answers (Ok found) script = found ≡ script
Answers (Err NoMemory) script = Unit {0}
Answers (Err (BadLine n)) script = ⊥
