use Rattle.std.proofs.Common.{◌≡◌, ◌++◌, flat_map}
use Rattle.trace_text.specs.Trees.{shown_text, store_text}
use Rattle.trace_text.proofs.trees.put_store.Given as goal

-- what is written, and after it the nodes that are left, make the text
abbrev pub invariant-loop-ino : goal.invariant-loop-ino
invariant-loop-ino l =
    goal.iterator-loop-ino.can_next l.ino-iterator ×
    goal.iterator-loop-ino.is_finite l.ino-iterator ×
    (l.out.items ++ flat_map (λ e. shown_text l.store e.0 e.1) l.ino-iterator ≡ l.fn.out.items ++ store_text l.store)
