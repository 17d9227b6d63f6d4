-- A script that has a text can be run, and a job that is done has run it.
use Rattle.std.proofs.Common.{◌≡◌, ℕ, List, [], ◌∷◌, ◌++◌, ap, sym, ◌∙◌, subst}
use Rattle.std.specs.Prelude.{Option, Result, Ok, Err, IfOk}
use Rattle.std.specs.declared.alloc.AllocError.{AllocError}
use Rattle.std.specs.Option.{option_to_list}
use Rattle.std.specs.List.{AllByRecursion}
use Rattle.std.specs.Cmp.{nat_cmp_total}
use Rattle.std.specs.Ordering.{nat_cmp}
use Rattle.std.specs.FinMap.{empty, get-empty, same_map, nat_cmp-IsAntisymmetric}
use Rattle.std.proofs.lemmas.List.{append-nil}
use Rattle.vfs_tree.specs.declared.limits.Limits.{Limits}
use Rattle.vfs_tree.specs.Start.{start_world}
use Rattle.vfs_tree.specs.declared.world.World.{World}
use Rattle.call_model.specs.Legal.{Pending, IsLegal, replay, calls_of, calls_in}
use Rattle.call_model.specs.declared.call.Call.{Call}
use Rattle.call_model.specs.declared.call.Line.{Line}
use Rattle.call_model.specs.declared.entry.Entry.{Entry}
use Rattle.script_text.specs.Fits.{FitsLine}
use Rattle.script_text.specs.declared.script.Script.{Script}
use Rattle.vfs_core.specs.Kernel.{Kernel, world_of}
use Rattle.vfs_core.specs.Work.{Work}
use Rattle.vfs_core.specs.Queues.{queue_at}
use Rattle.vfs_core.specs.Turning.{FitsJob, Runs, IsDone, calls_with, HasLeft, lines_of}
use Rattle.script_text.specs.Generator.{gen_lines}
use Rattle.script_text.specs.Script.{HasText, default_limits}
use Rattle.trace_text.specs.Output.{output_text}
use Rattle.trace_text.specs.Summary.{summary_text}
use Rattle.vfs_cli.proofs.EndLaws.{front_none}
use Rattle.vfs_cli.specs.Output.{IsAhead, IsFor, HasRun, IsHistoryOf, IsInTurn, TakesTurns, Outputs, Sums, generated, run_text}
use Rattle.vfs_cli.specs.Outcome.{Writing, Written, WroteOutput}
use Rattle.vfs_cli.specs.declared.serial.Ending.{Ending}
use Rattle.vfs_cli.specs.declared.serial.Ending.TheVariants as ending
use Rattle.vfs_cli.specs.declared.words.Turns.{Turns}
use Rattle.vfs_cli.specs.declared.words.Turns.TheVariants.{Scattered, InOrder, Together}

-- a line of a script can be run
fits_line : (limits : Limits) (line : Line) → FitsLine limits.callers line → FitsJob limits line
fits_line limits line fits = record { first = fits.first; last = fits.last }

fits_lines : (limits : Limits) (lines : List Line) → AllByRecursion (FitsLine limits.callers) lines → AllByRecursion (FitsJob limits) lines
fits_lines limits [] h = tt
fits_lines limits (line ∷ lines) h = (fits_line limits line h.0, fits_lines limits lines h.1)

-- the lines of a script can be run by a kernel with its limits
pub fits_script : (script : Script) (limits : Limits) (lines : List Line) → HasText script → limits ≡ script.limits → lines ≡ script.lines → AllByRecursion (FitsJob limits) lines
fits_script script limits lines text same are =
    subst (λ (x : List Line). AllByRecursion (FitsJob limits) x) (sym are) (subst (λ (l : Limits). AllByRecursion (FitsJob l) script.lines) (sym same) (fits_lines script.limits script.lines text.each))

-- a job that was made of the script's lines is for it
pub is_for : (script : Script) (kern : Kernel) (job : Work) (lines : List Line) → kern ≡ record { limits = script.limits; history = []; pending = empty } → job.kern ≡ kern
    → ((c : ℕ) → calls_with job c ≡ calls_of c kern.history ++ calls_in c lines) → HasLeft lines job → lines ≡ script.lines → IsFor script job
is_for script kern job lines new is each left are = record {
  limits = ap (λ (k : Kernel). k.limits) (is ∙ new);
  history = ap (λ (k : Kernel). k.history) (is ∙ new);
  calls = λ c. each c ∙ ap (λ (k : Kernel). calls_of c k.history ++ calls_in c lines) new ∙ ap (calls_in c) are;
  left = subst (λ (x : List Line). HasLeft x job) are left;
}

-- where the lines were to be run in their order, they are the call entries
in_turn : (turns : Turns) (script : Script) (start end : Work) → IsFor script start → TakesTurns turns start end → IsInTurn turns script end.kern.history
in_turn (Scattered seed) script start end for takes = tt
in_turn InOrder script start end for takes = takes script.lines for.left ∙ ap (λ h. lines_of h ++ script.lines) for.history
in_turn Together script start end for takes = tt

-- a job that is done has run what was left of the script
pub has_run_rest : (script : Script) (start end : Work) → IsAhead script start → Runs start end → ((c : ℕ) → IsDone end c) → HasRun Together script end.kern
has_run_rest script start end ahead runs done = record {
  limits = runs.limits ∙ ahead.limits;
  idle = same_map nat_cmp_total nat_cmp-IsAntisymmetric end.kern.pending empty (λ c. (done c).live ∙ sym (get-empty nat_cmp c));
  calls = λ c.
      let rest : calls_with end c ≡ calls_of c end.kern.history = ap (λ o. calls_of c end.kern.history ++ (option_to_list o ++ queue_at end.left c)) (done c).live
      ∙ ap (λ (t : List Call). calls_of c end.kern.history ++ t) (done c).left ∙ append-nil (calls_of c end.kern.history)
      in
      sym rest ∙ runs.each_call c ∙ ahead.calls c;
  in_turn = tt;
}

-- a job that is done has run the script
pub has_run : (turns : Turns) (script : Script) (start end : Work) → IsFor script start → Runs start end → ((c : ℕ) → IsDone end c) → TakesTurns turns start end → HasRun turns script end.kern
has_run turns script start end for runs done takes =
    let run = has_run_rest script start end (record { limits = for.limits; calls = for.calls }) runs done in
    record { limits = run.limits; idle = run.idle; calls = run.calls; in_turn = in_turn turns script start end for takes }

-- a kernel that has run the script has a history of it
is_history : (turns : Turns) (script : Script) (kern : Kernel) → IsLegal kern.pending (start_world kern.limits) kern.history → HasRun turns script kern → IsHistoryOf script kern.history
is_history turns script kern legal run = record {
  legal = subst (λ (w : World). IsLegal empty w kern.history) (ap start_world run.limits) (subst (λ (p : Pending). IsLegal p (start_world kern.limits) kern.history) run.idle legal);
  calls = run.calls;
}

-- the output of a kernel that has run the script is that of a history of it
outputs_run : (turns : Turns) (script : Script) (kern : Kernel) → IsLegal kern.pending (start_world kern.limits) kern.history → HasRun turns script kern → Outputs turns script (run_text kern)
outputs_run turns script kern legal run = record {
  history = kern.history;
  runs = is_history turns script kern legal run;
  in_turn = run.in_turn;
  output = ap (λ (l : Limits). output_text kern.history (replay (start_world l) kern.history)) run.limits;
}

-- the output of a kernel that has run the script was written, or a front of it; its text is made of its history and of
-- the world that this leaves
pub wrote_output : (turns : Turns) (script : Script) (kern : Kernel) (w : Writing) (end : Ending) (entries : List Entry) (world : World) → IsLegal kern.pending (start_world kern.limits) kern.history
    → entries ≡ kern.history → world ≡ world_of kern → Written w (output_text entries world) end → HasRun turns script kern → WroteOutput turns script w end
wrote_output turns script kern w end entries world legal its left wrote run = record {
  text = run_text kern;
  outputs = outputs_run turns script kern legal run;
  written = subst (λ (v : World). Written w (output_text kern.history v) end) left (subst (λ (es : List Entry). Written w (output_text es world) end) its wrote);
}

-- nothing was, where memory was wanting for the world
pub wrote_none : (turns : Turns) (script : Script) (kern : Kernel) (written : Option (List ℕ)) (faults : ℕ) → IsLegal kern.pending (start_world kern.limits) kern.history → HasRun turns script kern
    → WroteOutput turns script (record { written = written; written' = written; faults = faults; faults' = faults }) ending.NoMemory
wrote_none turns script kern written faults legal run = record {
  text = run_text kern;
  outputs = outputs_run turns script kern legal run;
  written = front_none written (run_text kern);
}

-- the summary of a kernel that has run the script is that of a history of it
pub sums_run : (turns : Turns) (script : Script) (kern : Kernel) (entries : List Entry) (world : World) (made : Result (List ℕ) AllocError) → IsLegal kern.pending (start_world kern.limits) kern.history
    → entries ≡ kern.history → world ≡ world_of kern → IfOk made (λ text. text ≡ summary_text entries world) → HasRun turns script kern → IfOk made (Sums script)
sums_run turns script kern entries world (Ok text) legal its left sums run =
    let here : world ≡ replay (start_world script.limits) kern.history = left ∙ ap (λ (l : Limits). replay (start_world l) kern.history) run.limits in
    record {
      history = kern.history;
      runs = is_history turns script kern legal run;
      summary = sums ∙ ap (λ (es : List Entry). summary_text es world) its ∙ ap (λ (v : World). summary_text kern.history v) here;
    }
sums_run turns script kern entries world (Err error) legal its left sums run = tt

-- the script that the generator makes
pub generated_is : (seed calls : ℕ) (script : Script) → script.lines ≡ gen_lines seed calls → script.limits ≡ default_limits → script ≡ generated seed calls
generated_is seed calls script lines limits =
    let same : script ≡ record { limits = script.limits; lines = gen_lines seed calls } = ap (λ (ls : List Line). record { limits = script.limits; lines = ls }) lines in
    same ∙ ap (λ (l : Limits). record { limits = l; lines = gen_lines seed calls }) limits
