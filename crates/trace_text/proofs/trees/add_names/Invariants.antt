use Rattle.std.proofs.Common.{◌≡◌, ℕ, ◌||◌, is_some}
use Rattle.std.specs.List.{list_any}
use Rattle.std.specs.FinMap.{entries, get}
use Rattle.trace_text.specs.Trees.{is_of}
use Rattle.trace_text.proofs.trees.add_names.Given as goal

-- what is known, and the names that are left, give what is asked for
abbrev pub invariant-loop-entry : goal.invariant-loop-entry
invariant-loop-entry l =
    goal.iterator-loop-entry.can_next l.entry-iterator ×
    goal.iterator-loop-entry.is_finite l.entry-iterator ×
    ((ino : ℕ) → (is_some (get l.given ino) || list_any (λ e. is_of ino e.1) l.entry-iterator)
    ≡ (is_some (get l.fn.given ino) || list_any (λ e. is_of ino e.1) (entries l.names)))
