-- What the reader of a script answers.
use Rattle.std.proofs.Common.{◌≡◌, ℕ, ◌==◌, List, Result, Ok, Err, IfOk, subst}
use Rattle.std.specs.List.{slice_split}
use Rattle.script_text.specs.declared.fault.ScriptFault.{ScriptFault}
use Rattle.script_text.specs.declared.fault.ScriptFault.TheVariants.{BadLine, NoMemory}
use Rattle.script_text.specs.declared.script.Script.{Script}
use Rattle.script_text.specs.Reading.{Reads}
use Rattle.script_text.specs.ReadScript.{script_at}
use Rattle.script_text.specs.Script.{HasText, IsTextOf, Answers}
use Rattle.script_text.specs.BadLine.{IsBadLine}
use Rattle.script_text.proofs.ScriptLaws.{script_found, script_again, script_bad}

-- the answer is what is read from the bytes
abbrev pub Read : List ℕ → Result Script ScriptFault → Type 0
Read bytes r = Reads (λ x. x) r (script_at (slice_split (λ b. b == 10) bytes))

pub answer_found : (bytes : List ℕ) (r : Result Script ScriptFault) → Read bytes r → IfOk r (λ s. HasText s × IsTextOf s bytes)
answer_found bytes (Ok s) e = script_found bytes s e
answer_found bytes (Err fault) e = tt

pub answer_only : (bytes : List ℕ) (r : Result Script ScriptFault) → Read bytes r → (s : Script) → HasText s → IsTextOf s bytes → Answers r s
answer_only bytes (Ok found) e s has is = let again = script_again s bytes has is in cc
answer_only bytes (Err NoMemory) e s has is = tt
answer_only bytes (Err (BadLine n)) e s has is = let again = script_again s bytes has is in cc

pub answer_bad : (bytes : List ℕ) (r : Result Script ScriptFault) → Read bytes r → (n : ℕ) → r ≡ Err (BadLine n) → IsBadLine bytes n
answer_bad bytes r e n is =
    let parts = slice_split (λ b. b == 10) bytes in
    let read : script_at parts ≡ Err n = subst (Read bytes) is e in
    record { first = script_bad parts n read; no_script = λ (s : Script) has text. answer_only bytes (Err (BadLine n)) read s has text }
