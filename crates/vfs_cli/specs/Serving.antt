-- What the program promises.
use Rattle.std.specs.Prelude.{◌≡◌, ◌≢◌, ◌⊎◌, ◌↔◌, ℕ, ◌<◌, List, length, Option, Some, None, false}
use Rattle.std.specs.Io.KnownBytes.{Consumes}
use Rattle.vfs_flow.specs.Faults.{Rose}
use Rattle.script_text.specs.BadLine.{IsBadLine}
use Rattle.script_text.specs.Script.{HasText, IsTextOf, script_text}
use Rattle.script_text.specs.declared.script.Script.{Script}
use Rattle.vfs_cli.specs.Words.{reads}
use Rattle.vfs_cli.specs.Output.{Ran, Sums, generated}
use Rattle.vfs_cli.specs.Outcome.{Effects, Outcome, ReadAll, ReadFew, ReadNothing, Wrote, WroteFront, bad_text, status_of}
use Rattle.vfs_cli.specs.declared.serial.Ending.{Ending}
use Rattle.vfs_cli.specs.declared.serial.Status.{Status}
use Rattle.vfs_cli.specs.declared.words.Command.{Command}
use Rattle.vfs_cli.specs.declared.words.Command.TheVariants.{Run, Gen, Show}
use Rattle.vfs_cli.specs.declared.words.Turns.{Turns}

-- the bytes, to the end of the source, are the text of a script; what was written is the output of a legal history, in
-- which each caller's calls are those of the script, and of the world that the history leaves; where the lines were run in
-- their order, the call entries of the history are the lines
pub record RanScript (turns : Turns) (e : Effects) : Type 0 where
  pub bytes : List ℕ
  pub text : List ℕ
  pub read : ReadAll e.source bytes
  pub ran : Ran turns bytes text
  pub wrote : Wrote e.sink text

-- nothing was read, and what was written is the summary of such a history of the generator's script
pub record SummedUp (seed calls : ℕ) (e : Effects) : Type 0 where
  pub text : List ℕ
  pub read : ReadNothing e.source
  pub sums : Sums (generated seed calls) text
  pub wrote : Wrote e.sink text

-- nothing was read, and what was written is the text of the generator's script
pub record Shown (seed calls : ℕ) (e : Effects) : Type 0 where
  pub read : ReadNothing e.source
  pub wrote : Wrote e.sink (script_text (generated seed calls))

-- the bytes, to the end of the source, are no script, and it was told that this is their bad line
pub record ToldBadLine (line : ℕ) (e : Effects) : Type 0 where
  pub bytes : List ℕ
  pub read : ReadAll e.source bytes
  pub bad : IsBadLine bytes line
  pub wrote : Wrote e.sink (bad_text line)

-- 1,048,577 bytes were read
pub record ReadTooMuch (e : Effects) : Type 0 where
  pub bytes : List ℕ
  pub count : length bytes ≡ 1048577
  pub taken : Consumes e.source.left e.source.left' bytes

-- neither the source nor the sink has a new fault
pub record IsFaultless (e : Effects) : Type 0 where
  pub source : Rose e.source.faults e.source.faults' → ⊥
  pub sink : Rose e.sink.faults e.sink.faults' → ⊥

-- the source has just these bytes left, which are not too many
pub record HasLeft (bytes : List ℕ) (e : Effects) : Type 0 where
  pub few : length bytes < 1048577
  pub left : e.source.left ≡ Some bytes

-- the words' command was served, if they are one, and the status says how
pub record Serves (words : Option Command) (e : Effects) (status : Status) : Type 0 where
  -- each status has its cause, and what was read and written with it
  pub outcome : (end : Ending) × (status ≡ status_of end) × Outcome words e end
  -- status 0 of a run, of a summary and of a script that is shown
  pub headline : status.code ≡ 0 → (turns : Turns) → words ≡ Some (Run turns) → RanScript turns e
  pub summary : status.code ≡ 0 → (seed calls : ℕ) → words ≡ Some (Gen seed calls) → SummedUp seed calls e
  pub shown : status.code ≡ 0 → (seed calls : ℕ) → words ≡ Some (Show seed calls) → Shown seed calls e
  pub usage : (status.code ≡ 64) ↔ (words ≡ None)
  pub too_long : status.code ≡ 27 → ReadTooMuch e
  pub not_too_long : status.code ≢ 27 → ReadFew e.source
  pub bad_script : status.code ≡ 65 → ToldBadLine status.line e
  pub no_line : status.code ≢ 65 → status.line ≡ 0
  pub read_fault : status.code ≡ 74 → Rose e.source.faults e.source.faults'
  pub write_fault : status.code ≡ 75 → Rose e.sink.faults e.sink.faults'
  pub front : status.code ≡ 75 → (command : Command) × (words ≡ Some command) × WroteFront command e
  -- a script is run, unless memory runs out, where the source and the sink have no fault
  pub complete : (turns : Turns) (script : Script) (bytes : List ℕ) → HasText script → IsTextOf script bytes → HasLeft bytes e
      → words ≡ Some (Run turns) → IsFaultless e → (status.code ≡ 0) ⊎ (status.code ≡ 12)
  -- and so is one that is made
  pub complete_made : (command : Command) → words ≡ Some command → reads command ≡ false
      → (Rose e.sink.faults e.sink.faults' → ⊥) → (status.code ≡ 0) ⊎ (status.code ≡ 12)
  -- and the bad line is told of what is no script
  pub complete_bad : (turns : Turns) (bytes : List ℕ) → ((script : Script) → HasText script → IsTextOf script bytes → ⊥) → HasLeft bytes e
      → words ≡ Some (Run turns) → IsFaultless e → (status.code ≡ 65) ⊎ (status.code ≡ 12)
