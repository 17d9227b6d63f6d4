-- How what was read and written tells how a run ends.
use Rattle.std.proofs.Common.{◌≡◌, ℕ, List, [], length, refl, subst, sym, inl, inr, lit<, arith}
use Rattle.std.specs.Prelude.{Option, Some, None, ◌⊎◌, Result, Ok, Err, IfOk, true}
use Rattle.std.specs.declared.alloc.AllocError.{AllocError}
use Rattle.std.specs.Io.KnownBytes.{Appends, Consumes}
use Rattle.std.proofs.KnownBytes.{Appends-nil}
use Rattle.vfs_flow.specs.Faults.{Rose}
use Rattle.vfs_flow.specs.Whole.{WritesFront, WritesWhole}
use Rattle.vfs_flow.specs.declared.whole.WholeWrite.{WholeWrite}
use Rattle.vfs_flow.specs.declared.whole.WholeWrite.TheVariants as write
use Rattle.script_text.specs.BadLine.{IsBadLine}
use Rattle.script_text.specs.Script.{script_text}
use Rattle.script_text.specs.declared.script.Script.{Script}
use Rattle.vfs_cli.specs.Output.{Outputs, Sums, generated}
use Rattle.vfs_cli.specs.Outcome.{Reading, Writing, Effects, ReadAll, ReadFew, ReadNothing, ReadSoFar, Wrote, WroteNothing, Wants, IsBad, Written, PutMade, Told, ReadScript, IsUntouched, WroteOutput, Outcome, bad_text}
use Rattle.vfs_cli.specs.declared.serial.Ending.{Ending}
use Rattle.vfs_cli.specs.declared.serial.Ending.TheVariants as ending
use Rattle.vfs_cli.specs.declared.words.Command.{Command}
use Rattle.vfs_cli.specs.declared.words.Command.TheVariants.{Run, Gen, Show}
use Rattle.vfs_cli.specs.declared.words.Turns.{Turns}

-- ---- writing

-- nothing was written, which is a front of each text
pub front_none : (written : Option (List ℕ)) (text : List ℕ) → WritesFront written written text
front_none written text = (0, omega arith, Appends-nil written)

-- ---- what a command has to write

-- it was written, or a front of it
pub written_all : (command : Command) (e : Effects) (text : List ℕ) (end : Ending) → Wants command e.source text → Written e.sink text end → Outcome (Some command) e end
written_all command e text ending.Done wants h = (command, text, refl, wants, h)
written_all command e text ending.NoMemory wants h = (command, refl, inr (inl (text, wants, h)))
written_all command e text ending.WriteFault wants h = (command, refl, inl (text, wants, h.0), h.1)
written_all command e text ending.TooLong wants h = absurd h
written_all command e text ending.Usage wants h = absurd h
written_all command e text (ending.BadScript line) wants h = absurd h
written_all command e text ending.ReadFault wants h = absurd h

-- the bad line was told, or a front of it
pub told_bad : (command : Command) (e : Effects) (line : ℕ) (end : Ending) → IsBad command e.source line → Told e.sink line end → Outcome (Some command) e end
told_bad command e line (ending.BadScript n) bad h = (command, refl, subst (λ x. IsBad command e.source x) (sym h.0) bad, subst (λ x. Wrote e.sink (bad_text x)) (sym h.0) h.1)
told_bad command e line ending.NoMemory bad h = (command, refl, inr (inr (line, bad, h)))
told_bad command e line ending.WriteFault bad h = (command, refl, inr (line, bad, h.0), h.1)
told_bad command e line ending.Done bad h = absurd h
told_bad command e line ending.TooLong bad h = absurd h
told_bad command e line ending.Usage bad h = absurd h
told_bad command e line ending.ReadFault bad h = absurd h

-- memory was wanting before anything was written
pub lacking : (command : Command) (e : Effects) → ReadSoFar command e.source → WroteNothing e.sink → Outcome (Some command) e ending.NoMemory
lacking command e read nothing = (command, refl, inl (read, nothing))

-- a text that was made was written, unless memory was wanting for it
pub put_sum : (seed calls : ℕ) (e : Effects) (text : Result (List ℕ) AllocError) (end : Ending) → ReadNothing e.source → IfOk text (Sums (generated seed calls)) → PutMade e.sink text end → Outcome (Some (Gen seed calls)) e end
put_sum seed calls e (Ok text) end read sums put = written_all (Gen seed calls) e text end (read, sums) put
put_sum seed calls e (Err error) end read sums put = subst (λ (x : Ending). Outcome (Some (Gen seed calls)) e x) (sym put.0) (lacking (Gen seed calls) e read put.1)

pub put_script : (seed calls : ℕ) (e : Effects) (text : Result (List ℕ) AllocError) (end : Ending) → ReadNothing e.source → IfOk text (λ t. t ≡ script_text (generated seed calls)) → PutMade e.sink text end
    → Outcome (Some (Show seed calls)) e end
put_script seed calls e (Ok text) end read is put = written_all (Show seed calls) e text end (read, is) put
put_script seed calls e (Err error) end read is put = subst (λ (x : Ending). Outcome (Some (Show seed calls)) e x) (sym put.0) (lacking (Show seed calls) e read put.1)

-- ---- a script is read

pub too_long : (turns : Turns) (e : Effects) → (bytes : List ℕ) × (length bytes ≡ 1048577) × Consumes e.source.left e.source.left' bytes → WroteNothing e.sink → Outcome (Some (Run turns)) e ending.TooLong
too_long turns e h nothing = (Run turns, h.0, refl, refl, h.1, h.2, nothing)

pub read_fault : (turns : Turns) (e : Effects) → ReadFew e.source → Rose e.source.faults e.source.faults' → WroteNothing e.sink → Outcome (Some (Run turns)) e ending.ReadFault
read_fault turns e few rose nothing = (Run turns, refl, refl, few, rose, nothing)

pub bad_line : (turns : Turns) (e : Effects) (line : ℕ) (end : Ending) (bytes : List ℕ) → ReadAll e.source bytes → IsBadLine bytes line → Told e.sink line end → Outcome (Some (Run turns)) e end
bad_line turns e line end bytes all bad told = told_bad (Run turns) e line end (bytes, refl, all, bad) told

-- ---- a script is run

-- memory was wanting for its run
pub lacking_run : (turns : Turns) (script : Script) (e : Effects) → ReadScript script e.source → IsUntouched e.sink → Outcome (Some (Run turns)) e ending.NoMemory
lacking_run turns script e read same =
    lacking (Run turns) e (read.bytes, read.all.few, read.all.taken) (subst (λ (o : Option (List ℕ)). Appends e.sink.written o []) same.written (Appends-nil e.sink.written))

-- the output of a run of the script was written, or a front of it, by a sink to which nothing was written before
pub wrote_run : (turns : Turns) (script : Script) (e : Effects) (written : Option (List ℕ)) (faults : ℕ) (end : Ending) → ReadScript script e.source
    → e.sink.written ≡ written → e.sink.faults ≡ faults
    → WroteOutput turns script (record { written = written; written' = e.sink.written'; faults = faults; faults' = e.sink.faults' }) end → Outcome (Some (Run turns)) e end
wrote_run turns script e written faults end read same still out =
    let from : Written e.sink out.text end =
    subst (λ (n : ℕ). Written (record { written = e.sink.written; written' = e.sink.written'; faults = n; faults' = e.sink.faults' }) out.text end) (sym still)
    (subst (λ (w : Option (List ℕ)). Written (record { written = w; written' = e.sink.written'; faults = faults; faults' = e.sink.faults' }) out.text end) (sym same) out.written)
    in
    written_all (Run turns) e out.text end (read.bytes, read.all, record { script = script; can = read.can; spelled = read.spelled; outputs = out.outputs }) from

-- the outcome is that of the command which the words say
pub same_command : (words command : Option Command) (e : Effects) (end : Ending) → command ≡ words → Outcome command e end → Outcome words e end
same_command words command e end same h = subst (λ o. Outcome o e end) same h
