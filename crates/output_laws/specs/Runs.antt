-- Histories of scripts.
use Rattle.std.specs.Prelude.{◌≡◌, ℕ, List}
use Rattle.std.specs.FinMap.{empty}
use Rattle.vfs_tree.specs.Start.{start_world}
use Rattle.call_model.specs.Legal.{IsLegal, calls_of, calls_in}
use Rattle.call_model.specs.declared.entry.Entry.{Entry}
use Rattle.script_text.specs.Script.{HasText}
use Rattle.script_text.specs.declared.script.Script.{Script}

-- a history of a script that has a text: it is legal, with no call pending, from the world at the start on, and each
-- caller's calls in it are those of the script, in their order
pub record IsRunOf (script : Script) (history : List Entry) : Type 0 where
  pub can : HasText script
  pub legal : IsLegal empty (start_world script.limits) history
  pub calls : (c : ℕ) → calls_of c history ≡ calls_in c script.lines
