-- The text of a history.
use Rattle.std.specs.Prelude.{ℕ, List, [], ◌∷◌, ◌++◌, flat_map, codes, decimal}
use Rattle.call_model.specs.declared.entry.Entry.{Entry}
use Rattle.call_model.specs.declared.entry.Entry.TheVariants as entry
use Rattle.script_text.specs.Line.{call_text}
use Rattle.trace_text.specs.Reply.{reply_text}
use Rattle.trace_text.specs.Inner.{inner_text}

-- a call is its script line and the reply, an inner entry the caller and what happened
abbrev pub entry_text : Entry → List ℕ
entry_text (entry.Call caller call reply) = call_text caller call ++ codes " = " ++ reply_text reply
entry_text (entry.Inner caller what) = decimal caller ++ codes " + " ++ inner_text what

-- the line of an entry, with its line end
abbrev pub entry_line : Entry → List ℕ
entry_line entry = entry_text entry ++ 10 ∷ []

-- the lines of the entries in their order
abbrev pub history_text : List Entry → List ℕ
history_text entries = flat_map entry_line entries
