-- How a run ends, and what it read and wrote.
use Rattle.std.specs.Prelude.{◌≡◌, ◌⊎◌, ℕ, ◌<◌, ◌++◌, ◌∷◌, List, [], length, codes, decimal, Option, Some, None, true, Result, MatchResult}
use Rattle.std.specs.declared.alloc.AllocError.{AllocError}
use Rattle.std.specs.Io.KnownBytes.{Consumes, Appends, IsAtEnd}
use Rattle.vfs_flow.specs.Faults.{Rose}
use Rattle.vfs_flow.specs.Whole.{ReadsFewer, WritesFront}
use Rattle.script_text.specs.BadLine.{IsBadLine}
use Rattle.script_text.specs.Script.{HasText, IsTextOf, script_text}
use Rattle.script_text.specs.declared.script.Script.{Script}
use Rattle.vfs_cli.specs.Words.{reads}
use Rattle.vfs_cli.specs.Output.{Outputs, Ran, Sums, generated}
use Rattle.vfs_cli.specs.declared.serial.Ending.{Ending}
use Rattle.vfs_cli.specs.declared.serial.Ending.TheVariants as ending
use Rattle.vfs_cli.specs.declared.serial.Status.{Status}
use Rattle.vfs_cli.specs.declared.words.Command.{Command}
use Rattle.vfs_cli.specs.declared.words.Command.TheVariants.{Run, Gen, Show}
use Rattle.vfs_cli.specs.declared.words.Turns.{Turns}

-- ---- what was read and written

-- what a source has left, where it tells it, and its count of faults, before and after
pub record Reading : Type 0 where
  pub left : Option (List ℕ)
  pub left' : Option (List ℕ)
  pub faults : ℕ
  pub faults' : ℕ

-- what a sink holds, where it tells it, and its count of faults, before and after
pub record Writing : Type 0 where
  pub written : Option (List ℕ)
  pub written' : Option (List ℕ)
  pub faults : ℕ
  pub faults' : ℕ

-- what was read of a source and written to a sink
pub record Effects : Type 0 where
  pub source : Reading
  pub sink : Writing

-- by what a source tells of itself, before and after
abbrev pub reading : {S : Type 0} → (S → Option (List ℕ)) → (S → ℕ) → S → S → Reading
reading left faults old new = record { left = left old; left' = left new; faults = faults old; faults' = faults new }

-- by what a sink tells of itself, before and after
abbrev pub writing : {K : Type 0} → (K → Option (List ℕ)) → (K → ℕ) → K → K → Writing
writing written faults old new = record { written = written old; written' = written new; faults = faults old; faults' = faults new }

-- by what both tell
abbrev pub effects : Reading → Writing → Effects
effects source sink = record { source = source; sink = sink }

-- the bytes, at most 1,048,576, are all of the source
pub record ReadAll (r : Reading) (bytes : List ℕ) : Type 0 where
  pub few : length bytes < 1048577
  pub taken : Consumes r.left r.left' bytes
  pub whole : IsAtEnd r.left'

-- fewer bytes than are too many were read
abbrev pub ReadFew : Reading → Type 0
ReadFew r = ReadsFewer 1048577 r.left r.left'

-- nothing was read
abbrev pub ReadNothing : Reading → Type 0
ReadNothing r = Consumes r.left r.left' []

-- the text was written
abbrev pub Wrote : Writing → List ℕ → Type 0
Wrote w text = Appends w.written w.written' text

-- nothing was written
abbrev pub WroteNothing : Writing → Type 0
WroteNothing w = Wrote w []

-- ---- what a command has to write

-- the text that tells the bad line
abbrev pub bad_text : ℕ → List ℕ
bad_text line = codes "bad line " ++ (decimal line ++ 10 ∷ [])

-- the text that a command has to write, by what was read
abbrev pub Wants : Command → Reading → List ℕ → Type 0
Wants (Run turns) r text = (bytes : List ℕ) × ReadAll r bytes × Ran turns bytes text
Wants (Gen seed calls) r text = ReadNothing r × Sums (generated seed calls) text
Wants (Show seed calls) r text = ReadNothing r × (text ≡ script_text (generated seed calls))

-- the bytes are no script, and this is their bad line
abbrev pub IsBad : Command → Reading → ℕ → Type 0
IsBad command r line = (bytes : List ℕ) × (reads command ≡ true) × ReadAll r bytes × IsBadLine bytes line

-- a front of what a command has to write was written, or of what tells the bad line
abbrev pub WroteFront : Command → Effects → Type 0
WroteFront command e =
    ((text : List ℕ) × Wants command e.source text × WritesFront e.sink.written e.sink.written' text)
    ⊎ ((line : ℕ) × IsBad command e.source line × WritesFront e.sink.written e.sink.written' (bad_text line))

-- what may have been read where memory was wanting before anything was written: of a script fewer bytes than are too many,
-- and nothing where the script is made
abbrev pub ReadSoFar : Command → Reading → Type 0
ReadSoFar (Run turns) r = ReadFew r
ReadSoFar (Gen seed calls) r = ReadNothing r
ReadSoFar (Show seed calls) r = ReadNothing r

-- ---- how a run ends

-- the table of endings: what was read and written, and the cause
abbrev pub Outcome : Option Command → Effects → Ending → Type 0
Outcome words e ending.Done = (command : Command) × (text : List ℕ) × (words ≡ Some command) × Wants command e.source text × Wrote e.sink text
Outcome words e ending.NoMemory = (command : Command) × (words ≡ Some command) × ((ReadSoFar command e.source × WroteNothing e.sink) ⊎ WroteFront command e)
Outcome words e ending.TooLong =
    (command : Command) × (bytes : List ℕ) × (words ≡ Some command) × (reads command ≡ true) × (length bytes ≡ 1048577) × Consumes e.source.left e.source.left' bytes × WroteNothing e.sink
Outcome words e ending.Usage = (words ≡ None) × ReadNothing e.source × WroteNothing e.sink
Outcome words e (ending.BadScript line) = (command : Command) × (words ≡ Some command) × IsBad command e.source line × Wrote e.sink (bad_text line)
Outcome words e ending.ReadFault = (command : Command) × (words ≡ Some command) × (reads command ≡ true) × ReadFew e.source × Rose e.source.faults e.source.faults' × WroteNothing e.sink
Outcome words e ending.WriteFault = (command : Command) × (words ≡ Some command) × WroteFront command e × Rose e.sink.faults e.sink.faults'

-- the exit status of an ending
abbrev pub code_of : Ending → ℕ
code_of ending.Done = 0
code_of ending.NoMemory = 12
code_of ending.TooLong = 27
code_of ending.Usage = 64
code_of (ending.BadScript line) = 65
code_of ending.ReadFault = 74
code_of ending.WriteFault = 75

-- the line that an ending names
abbrev pub line_of : Ending → ℕ
line_of (ending.BadScript line) = line
line_of _ = 0

-- the status of an ending
abbrev pub status_of : Ending → Status
status_of end = record { code = code_of end; line = line_of end }

-- ---- the steps of a run

-- a text of the script was read, and is all of the source
pub record ReadScript (script : Script) (r : Reading) : Type 0 where
  pub can : HasText script
  pub bytes : List ℕ
  pub spelled : IsTextOf script bytes
  pub all : ReadAll r bytes

-- a sink is as it was
pub record IsUntouched (w : Writing) : Type 0 where
  pub written : w.written ≡ w.written'
  pub faults : w.faults ≡ w.faults'

-- a script was read and nothing was written, or the run came to an end
abbrev pub TakesScript : Effects → Result Script Ending → Type 0
TakesScript e result = MatchResult result (λ script. ReadScript script e.source × IsUntouched e.sink) (λ end. (turns : Turns) → Outcome (Some (Run turns)) e end)

-- what was written of a text, and the ending that tells it
abbrev pub Written : Writing → List ℕ → Ending → Type 0
Written w text ending.Done = Wrote w text
Written w text ending.NoMemory = WritesFront w.written w.written' text
Written w text ending.WriteFault = WritesFront w.written w.written' text × Rose w.faults w.faults'
Written w text _ = ⊥

-- a text that was made was written, or a front of it; nothing was where memory was wanting for the text
abbrev pub PutMade : Writing → Result (List ℕ) AllocError → Ending → Type 0
PutMade w made end = MatchResult made (λ text. Written w text end) (λ _. (end ≡ ending.NoMemory) × WroteNothing w)

-- what was written of the text that tells a bad line, and the ending that tells it
abbrev pub Told : Writing → ℕ → Ending → Type 0
Told w line (ending.BadScript n) = (n ≡ line) × Wrote w (bad_text line)
Told w line ending.NoMemory = WritesFront w.written w.written' (bad_text line)
Told w line ending.WriteFault = WritesFront w.written w.written' (bad_text line) × Rose w.faults w.faults'
Told w line _ = ⊥

-- the output of a run of the script was written, or a front of it, and the ending tells it
pub record WroteOutput (turns : Turns) (script : Script) (w : Writing) (end : Ending) : Type 0 where
  pub text : List ℕ
  pub outputs : Outputs turns script text
  pub written : Written w text end
