-- How a run ends, with what it read and wrote, gives all that is promised.
use Rattle.std.proofs.Common.{◌≡◌, ◌≢◌, ℕ, ◌+◌, ◌<◌, ◌≤◌, ◌++◌, List, [], length, refl, subst, sym, ap, ◌∙◌, inl, inr, lit<, arith, length-append}
use Rattle.std.specs.Prelude.{Option, Some, None, ◌⊎◌, IfSome, true, false, unwrap_or}
use Rattle.std.specs.Io.KnownBytes.{Consumes, IsAtEnd}
use Rattle.std.proofs.KnownBytes.{Consumes-all}
use Rattle.vfs_flow.specs.Faults.{Rose}
use Rattle.script_text.specs.Script.{HasText, IsTextOf}
use Rattle.script_text.specs.declared.script.Script.{Script}
use Rattle.vfs_cli.specs.Words.{reads}
use Rattle.vfs_cli.specs.Outcome.{Reading, Effects, ReadAll, ReadFew, ReadNothing, ReadSoFar, Wrote, WroteNothing, Wants, IsBad, WroteFront, Outcome, code_of, line_of, status_of}
use Rattle.vfs_cli.specs.Serving.{RanScript, SummedUp, Shown, ToldBadLine, ReadTooMuch, IsFaultless, HasLeft, Serves}
use Rattle.vfs_cli.specs.declared.serial.Ending.{Ending}
use Rattle.vfs_cli.specs.declared.serial.Ending.TheVariants as ending
use Rattle.vfs_cli.specs.declared.serial.Status.{Status}
use Rattle.vfs_cli.specs.declared.words.Command.{Command}
use Rattle.vfs_cli.specs.declared.words.Command.TheVariants.{Run, Gen, Show}
use Rattle.vfs_cli.specs.declared.words.Turns.{Turns}

-- ---- words

-- words that are a command are one alone
one_command : (words : Option Command) (a b : Command) → words ≡ Some a → words ≡ Some b → a ≡ b
one_command words a b is also = let same : Some a ≡ Some b = sym is ∙ also in cc

is_command : {X : Type 0} (words : Option Command) (a : Command) → words ≡ None → words ≡ Some a → X
is_command words a none is = let no : None ≡ Some a = sym none ∙ is in cc

-- ---- status 0

done : (words : Option Command) (e : Effects) (end : Ending) → Outcome words e end → code_of end ≡ 0
    → (command : Command) × (text : List ℕ) × (words ≡ Some command) × Wants command e.source text × Wrote e.sink text
done words e ending.Done h code = h
done words e ending.NoMemory h code = absurd (omega (arith, code))
done words e ending.TooLong h code = absurd (omega (arith, code))
done words e ending.Usage h code = absurd (omega (arith, code))
done words e (ending.BadScript line) h code = absurd (omega (arith, code))
done words e ending.ReadFault h code = absurd (omega (arith, code))
done words e ending.WriteFault h code = absurd (omega (arith, code))

-- what the command had to write was written
wanted : (words : Option Command) (e : Effects) (end : Ending) (command : Command) → Outcome words e end → code_of end ≡ 0 → words ≡ Some command
    → (text : List ℕ) × Wants command e.source text × Wrote e.sink text
wanted words e end command h code is =
    let d = done words e end h code in
    (d.1, subst (λ (c : Command). Wants c e.source d.1) (one_command words d.0 command d.2 is) d.3, d.4)

ran_script : (words : Option Command) (e : Effects) (end : Ending) (turns : Turns) → Outcome words e end → code_of end ≡ 0 → words ≡ Some (Run turns) → RanScript turns e
ran_script words e end turns h code is =
    let w = wanted words e end (Run turns) h code is in
    record { bytes = w.1.0; text = w.0; read = w.1.1; ran = w.1.2; wrote = w.2 }

summed_up : (words : Option Command) (e : Effects) (end : Ending) (seed calls : ℕ) → Outcome words e end → code_of end ≡ 0 → words ≡ Some (Gen seed calls) → SummedUp seed calls e
summed_up words e end seed calls h code is =
    let w = wanted words e end (Gen seed calls) h code is in
    record { text = w.0; read = w.1.0; sums = w.1.1; wrote = w.2 }

shown_script : (words : Option Command) (e : Effects) (end : Ending) (seed calls : ℕ) → Outcome words e end → code_of end ≡ 0 → words ≡ Some (Show seed calls) → Shown seed calls e
shown_script words e end seed calls h code is =
    let w = wanted words e end (Show seed calls) h code is in
    record { read = w.1.0; wrote = subst (Wrote e.sink) w.1.1 w.2 }

-- ---- status 64

no_command : (words : Option Command) (e : Effects) (end : Ending) → Outcome words e end → code_of end ≡ 64 → words ≡ None
no_command words e ending.Done h code = absurd (omega (arith, code))
no_command words e ending.NoMemory h code = absurd (omega (arith, code))
no_command words e ending.TooLong h code = absurd (omega (arith, code))
no_command words e ending.Usage h code = h.0
no_command words e (ending.BadScript line) h code = absurd (omega (arith, code))
no_command words e ending.ReadFault h code = absurd (omega (arith, code))
no_command words e ending.WriteFault h code = absurd (omega (arith, code))

usage : (words : Option Command) (e : Effects) (end : Ending) → Outcome words e end → words ≡ None → code_of end ≡ 64
usage words e ending.Done h none = is_command words h.0 none h.2
usage words e ending.NoMemory h none = is_command words h.0 none h.1
usage words e ending.TooLong h none = is_command words h.0 none h.2
usage words e ending.Usage h none = refl
usage words e (ending.BadScript line) h none = is_command words h.0 none h.1
usage words e ending.ReadFault h none = is_command words h.0 none h.1
usage words e ending.WriteFault h none = is_command words h.0 none h.1

-- ---- what was read

nothing_few : (r : Reading) → ReadNothing r → ReadFew r
nothing_few r h = ([], lit< tt, h)

wanted_few : (command : Command) (r : Reading) (text : List ℕ) → Wants command r text → ReadFew r
wanted_few (Run turns) r text h = (h.0, h.1.few, h.1.taken)
wanted_few (Gen seed calls) r text h = nothing_few r h.0
wanted_few (Show seed calls) r text h = nothing_few r h.0

bad_few : (command : Command) (r : Reading) (line : ℕ) → IsBad command r line → ReadFew r
bad_few command r line h = (h.0, h.2.few, h.2.taken)

front_few : (command : Command) (e : Effects) → WroteFront command e → ReadFew e.source
front_few command e (inl h) = wanted_few command e.source h.0 h.1
front_few command e (inr h) = bad_few command e.source h.0 h.1

so_far_few : (command : Command) (r : Reading) → ReadSoFar command r → ReadFew r
so_far_few (Run turns) r h = h
so_far_few (Gen seed calls) r h = nothing_few r h
so_far_few (Show seed calls) r h = nothing_few r h

lacking_few : (command : Command) (e : Effects) → (ReadSoFar command e.source × WroteNothing e.sink) ⊎ WroteFront command e → ReadFew e.source
lacking_few command e (inl h) = so_far_few command e.source h.0
lacking_few command e (inr h) = front_few command e h

read_few : (words : Option Command) (e : Effects) (end : Ending) → Outcome words e end → code_of end ≢ 27 → ReadFew e.source
read_few words e ending.Done h other = wanted_few h.0 e.source h.1 h.3
read_few words e ending.NoMemory h other = lacking_few h.0 e h.2
read_few words e ending.TooLong h other = absurd (other refl)
read_few words e ending.Usage h other = nothing_few e.source h.1
read_few words e (ending.BadScript line) h other = bad_few h.0 e.source line h.2
read_few words e ending.ReadFault h other = h.3
read_few words e ending.WriteFault h other = front_few h.0 e h.2

read_too_much : (words : Option Command) (e : Effects) (end : Ending) → Outcome words e end → code_of end ≡ 27 → ReadTooMuch e
read_too_much words e ending.Done h code = absurd (omega (arith, code))
read_too_much words e ending.NoMemory h code = absurd (omega (arith, code))
read_too_much words e ending.TooLong h code = record { bytes = h.1; count = h.4; taken = h.5 }
read_too_much words e ending.Usage h code = absurd (omega (arith, code))
read_too_much words e (ending.BadScript line) h code = absurd (omega (arith, code))
read_too_much words e ending.ReadFault h code = absurd (omega (arith, code))
read_too_much words e ending.WriteFault h code = absurd (omega (arith, code))

-- ---- the bad line

told_line : (words : Option Command) (e : Effects) (end : Ending) → Outcome words e end → code_of end ≡ 65 → ToldBadLine (line_of end) e
told_line words e ending.Done h code = absurd (omega (arith, code))
told_line words e ending.NoMemory h code = absurd (omega (arith, code))
told_line words e ending.TooLong h code = absurd (omega (arith, code))
told_line words e ending.Usage h code = absurd (omega (arith, code))
told_line words e (ending.BadScript line) h code = record { bytes = h.2.0; read = h.2.2; bad = h.2.3; wrote = h.3 }
told_line words e ending.ReadFault h code = absurd (omega (arith, code))
told_line words e ending.WriteFault h code = absurd (omega (arith, code))

no_line : (end : Ending) → code_of end ≢ 65 → line_of end ≡ 0
no_line ending.Done other = refl
no_line ending.NoMemory other = refl
no_line ending.TooLong other = refl
no_line ending.Usage other = refl
no_line (ending.BadScript line) other = absurd (other refl)
no_line ending.ReadFault other = refl
no_line ending.WriteFault other = refl

-- ---- faults

read_fault : (words : Option Command) (e : Effects) (end : Ending) → Outcome words e end → code_of end ≡ 74 → Rose e.source.faults e.source.faults'
read_fault words e ending.Done h code = absurd (omega (arith, code))
read_fault words e ending.NoMemory h code = absurd (omega (arith, code))
read_fault words e ending.TooLong h code = absurd (omega (arith, code))
read_fault words e ending.Usage h code = absurd (omega (arith, code))
read_fault words e (ending.BadScript line) h code = absurd (omega (arith, code))
read_fault words e ending.ReadFault h code = h.4
read_fault words e ending.WriteFault h code = absurd (omega (arith, code))

front : (words : Option Command) (e : Effects) (end : Ending) → Outcome words e end → code_of end ≡ 75
    → (command : Command) × (words ≡ Some command) × WroteFront command e × Rose e.sink.faults e.sink.faults'
front words e ending.Done h code = absurd (omega (arith, code))
front words e ending.NoMemory h code = absurd (omega (arith, code))
front words e ending.TooLong h code = absurd (omega (arith, code))
front words e ending.Usage h code = absurd (omega (arith, code))
front words e (ending.BadScript line) h code = absurd (omega (arith, code))
front words e ending.ReadFault h code = absurd (omega (arith, code))
front words e ending.WriteFault h code = h

-- ---- completeness

-- no more is taken than a source has
taken_few : (left left' : Option (List ℕ)) (bytes taken : List ℕ) → left ≡ Some bytes → Consumes left left' taken → length taken ≤ length bytes
taken_few None left' bytes taken is h = let no : None ≡ Some bytes = is in absurd cc
taken_few (Some xs) None bytes taken is h = absurd h
taken_few (Some xs) (Some ys) bytes taken is h =
    let all : bytes ≡ taken ++ ys = ap (λ (o : Option (List ℕ)). unwrap_or o []) (sym is) ∙ h in
    let long : length bytes ≡ length taken + length ys = ap length all ∙ length-append taken ys in
    omega arith

-- all of a source is what it had
taken_all : (r : Reading) (bytes taken : List ℕ) → r.left ≡ Some bytes → ReadAll r taken → taken ≡ bytes
taken_all r bytes taken is all =
    subst (λ (o : Option (List ℕ)). IfSome o (λ xs. taken ≡ xs)) is (Consumes-all r.left r.left' taken [] taken all.taken all.whole refl)

too_long : {X : Type 0} (bytes taken : List ℕ) (e : Effects) → HasLeft bytes e → length taken ≡ 1048577 → Consumes e.source.left e.source.left' taken → X
too_long bytes taken e has long h =
    let few = has.few in
    let within : length taken ≤ length bytes = taken_few e.source.left e.source.left' bytes taken has.left h in
    absurd (omega arith)

complete : (words : Option Command) (e : Effects) (end : Ending) (turns : Turns) (script : Script) (bytes : List ℕ) → Outcome words e end → HasText script → IsTextOf script bytes → HasLeft bytes e
    → words ≡ Some (Run turns) → IsFaultless e → (code_of end ≡ 0) ⊎ (code_of end ≡ 12)
complete words e ending.Done turns script bytes h can spelled has is none = inl refl
complete words e ending.NoMemory turns script bytes h can spelled has is none = inr refl
complete words e ending.TooLong turns script bytes h can spelled has is none = too_long bytes h.1 e has h.4 h.5
complete words e ending.Usage turns script bytes h can spelled has is none = is_command words (Run turns) h.0 is
complete words e (ending.BadScript line) turns script bytes h can spelled has is none =
    absurd (h.2.3.no_script script can (subst (IsTextOf script) (sym (taken_all e.source bytes h.2.0 has.left h.2.2)) spelled))
complete words e ending.ReadFault turns script bytes h can spelled has is none = absurd (none.source h.4)
complete words e ending.WriteFault turns script bytes h can spelled has is none = absurd (none.sink h.3)

-- a command that makes its script reads none
reads_none : {X : Type 0} (words : Option Command) (a b : Command) → words ≡ Some a → words ≡ Some b → reads a ≡ true → reads b ≡ false → X
reads_none words a b is also read made =
    let both : true ≡ false = sym read ∙ ap reads (one_command words a b is also) ∙ made in
    absurd cc

complete_made : (words : Option Command) (e : Effects) (end : Ending) (command : Command) → Outcome words e end → words ≡ Some command → reads command ≡ false
    → (Rose e.sink.faults e.sink.faults' → ⊥) → (code_of end ≡ 0) ⊎ (code_of end ≡ 12)
complete_made words e ending.Done command h is made none = inl refl
complete_made words e ending.NoMemory command h is made none = inr refl
complete_made words e ending.TooLong command h is made none = reads_none words h.0 command h.2 is h.3 made
complete_made words e ending.Usage command h is made none = is_command words command h.0 is
complete_made words e (ending.BadScript line) command h is made none = reads_none words h.0 command h.1 is h.2.1 made
complete_made words e ending.ReadFault command h is made none = reads_none words h.0 command h.1 is h.2 made
complete_made words e ending.WriteFault command h is made none = absurd (none h.3)

complete_bad : (words : Option Command) (e : Effects) (end : Ending) (turns : Turns) (bytes : List ℕ) → Outcome words e end → ((script : Script) → HasText script → IsTextOf script bytes → ⊥) → HasLeft bytes e
    → words ≡ Some (Run turns) → IsFaultless e → (code_of end ≡ 65) ⊎ (code_of end ≡ 12)
complete_bad words e ending.Done turns bytes h bad has is none =
    let ran = ran_script words e ending.Done turns h refl is in
    absurd (bad ran.ran.script ran.ran.can (subst (IsTextOf ran.ran.script) (taken_all e.source bytes ran.bytes has.left ran.read) ran.ran.spelled))
complete_bad words e ending.NoMemory turns bytes h bad has is none = inr refl
complete_bad words e ending.TooLong turns bytes h bad has is none = too_long bytes h.1 e has h.4 h.5
complete_bad words e ending.Usage turns bytes h bad has is none = is_command words (Run turns) h.0 is
complete_bad words e (ending.BadScript line) turns bytes h bad has is none = inl refl
complete_bad words e ending.ReadFault turns bytes h bad has is none = absurd (none.source h.4)
complete_bad words e ending.WriteFault turns bytes h bad has is none = absurd (none.sink h.3)

-- ---- the whole

serves : (words : Option Command) (e : Effects) (end : Ending) → Outcome words e end → Serves words e (status_of end)
serves words e end h = record {
  outcome = (end, refl, h);
  headline = λ code turns is. ran_script words e end turns h code is;
  summary = λ code seed calls is. summed_up words e end seed calls h code is;
  shown = λ code seed calls is. shown_script words e end seed calls h code is;
  usage = (no_command words e end h, usage words e end h);
  too_long = read_too_much words e end h;
  not_too_long = read_few words e end h;
  bad_script = told_line words e end h;
  no_line = no_line end;
  read_fault = read_fault words e end h;
  write_fault = λ code. (front words e end h code).3;
  front = λ code. let f = front words e end h code in (f.0, f.1, f.2);
  complete = λ turns script bytes can spelled has is none. complete words e end turns script bytes h can spelled has is none;
  complete_made = λ command is made none. complete_made words e end command h is made none;
  complete_bad = λ turns bytes bad has is none. complete_bad words e end turns bytes h bad has is none;
}

-- by a status that is that of the ending, for words that say this command
pub serves_as : (words command : Option Command) (e : Effects) (end : Ending) (status : Status) → command ≡ words → status ≡ status_of end → Outcome command e end → Serves words e status
serves_as words command e end status same is h = subst (λ (s : Status). Serves words e s) (sym is) (serves words e end (subst (λ (o : Option Command). Outcome o e end) same h))

pub serves_same : (words command : Option Command) (e : Effects) (status : Status) → command ≡ words → Serves command e status → Serves words e status
serves_same words command e status same h = subst (λ (o : Option Command). Serves o e status) same h
