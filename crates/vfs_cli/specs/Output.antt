-- What a run of a script writes.
use Rattle.std.specs.Prelude.{◌≡◌, ℕ, List, [], ◌++◌}
use Rattle.std.specs.FinMap.{empty}
use Rattle.vfs_tree.specs.Start.{start_world}
use Rattle.vfs_tree.specs.declared.world.World.{World}
use Rattle.call_model.specs.Legal.{IsLegal, replay, calls_of, calls_in}
use Rattle.call_model.specs.declared.call.Line.{Line}
use Rattle.call_model.specs.declared.entry.Entry.{Entry}
use Rattle.script_text.specs.Generator.{gen_lines}
use Rattle.script_text.specs.Script.{HasText, IsTextOf, default_limits}
use Rattle.script_text.specs.declared.script.Script.{Script}
use Rattle.trace_text.specs.Output.{output_text}
use Rattle.trace_text.specs.Summary.{summary_text}
use Rattle.vfs_core.specs.Kernel.{Kernel, world_of}
use Rattle.vfs_core.specs.Turning.{lines_of, HasLeft, calls_with}
use Rattle.vfs_core.specs.Work.{Work}
use Rattle.vfs_cli.specs.declared.words.Turns.{Turns}
use Rattle.vfs_cli.specs.declared.words.Turns.TheVariants.{Scattered, InOrder, Together}

-- a legal history, with no call pending, from the world at the start on, in which each caller's calls are those of the
-- script, in their order
pub record IsHistoryOf (script : Script) (history : List Entry) : Type 0 where
  pub legal : IsLegal empty (start_world script.limits) history
  pub calls : (c : ℕ) → calls_of c history ≡ calls_in c script.lines

-- where the lines were to be run in their order, the call entries are the lines
abbrev pub IsInTurn : Turns → Script → List Entry → Type 0
IsInTurn (Scattered seed) script history = Unit {0}
IsInTurn InOrder script history = lines_of history ≡ script.lines
IsInTurn Together script history = Unit {0}

-- where the lines were to be run in their order, the call entries that are new are the lines that were left
abbrev pub TakesTurns : Turns → Work → Work → Type 0
TakesTurns (Scattered seed) old new = Unit {0}
TakesTurns InOrder old new = (lines : List Line) → HasLeft lines old → lines_of new.kern.history ≡ lines_of old.kern.history ++ lines
TakesTurns Together old new = Unit {0}

-- the world that a history of a script leaves
abbrev pub world_left : Script → List Entry → World
world_left script history = replay (start_world script.limits) history

-- a job in which each caller's calls, those in the history and then those that are left, are the script's
pub record IsAhead (script : Script) (job : Work) : Type 0 where
  pub limits : job.kern.limits ≡ script.limits
  pub calls : (c : ℕ) → calls_with job c ≡ calls_in c script.lines

-- a job of the script's calls, none of which was begun
pub record IsFor (script : Script) (job : Work) : Type 0 where
  pub limits : job.kern.limits ≡ script.limits
  pub history : job.kern.history ≡ []
  pub calls : (c : ℕ) → calls_with job c ≡ calls_in c script.lines
  pub left : HasLeft script.lines job

-- the kernel has run the script: no call is pending, and each caller's calls in the history are those of the script
pub record HasRun (turns : Turns) (script : Script) (kern : Kernel) : Type 0 where
  pub limits : kern.limits ≡ script.limits
  pub idle : kern.pending ≡ empty
  pub calls : (c : ℕ) → calls_of c kern.history ≡ calls_in c script.lines
  pub in_turn : IsInTurn turns script kern.history

-- the output of a run, by the kernel after all calls: its history, and the trees of the world that the history leaves
abbrev pub run_text : Kernel → List ℕ
run_text kern = output_text kern.history (world_of kern)

-- the text is the output of a history of the script, with the trees of the world that the history leaves
pub record Outputs (turns : Turns) (script : Script) (text : List ℕ) : Type 0 where
  pub history : List Entry
  pub runs : IsHistoryOf script history
  pub in_turn : IsInTurn turns script history
  pub output : text ≡ output_text history (world_left script history)

-- the text is the summary of a history of the script, and of the world that the history leaves
pub record Sums (script : Script) (text : List ℕ) : Type 0 where
  pub history : List Entry
  pub runs : IsHistoryOf script history
  pub summary : text ≡ summary_text history (world_left script history)

-- the bytes are a text of a script, and the text is the output of a history of it
pub record Ran (turns : Turns) (bytes text : List ℕ) : Type 0 where
  pub script : Script
  pub can : HasText script
  pub spelled : IsTextOf script bytes
  pub outputs : Outputs turns script text

-- the script that the generator makes
abbrev pub generated : ℕ → ℕ → Script
generated seed calls = record { limits = default_limits; lines = gen_lines seed calls }
