-- The whole output of a run.
use Rattle.std.specs.Prelude.{ℕ, List, ◌++◌, codes}
use Rattle.call_model.specs.declared.entry.Entry.{Entry}
use Rattle.vfs_tree.specs.declared.world.World.{World}
use Rattle.trace_text.specs.History.{history_text}
use Rattle.trace_text.specs.Trees.{trees_text}

-- the first line
abbrev pub first_line : List ℕ
first_line = codes "vfs output 1\n"

-- the line between the history and the trees
abbrev pub trees_line : List ℕ
trees_line = codes "trees\n"

-- the last line
abbrev pub last_line : List ℕ
last_line = codes "end\n"

-- the history, and the trees of the world that it leaves
abbrev pub output_text : List Entry → World → List ℕ
output_text entries world = first_line ++ history_text entries ++ trees_line ++ trees_text world ++ last_line
