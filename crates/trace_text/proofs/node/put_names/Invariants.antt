use Rattle.std.proofs.Common.{◌≡◌, ◌++◌, flat_map}
use Rattle.std.specs.FinMap.{entries}
use Rattle.trace_text.specs.Node.{name_text}
use Rattle.trace_text.proofs.node.put_names.Given as goal

-- what is written, and after it the names that are left, make the text
abbrev pub invariant-loop-name : goal.invariant-loop-name
invariant-loop-name l =
    goal.iterator-loop-name.can_next l.name-iterator ×
    goal.iterator-loop-name.is_finite l.name-iterator ×
    (l.out.items ++ flat_map (λ e. name_text e.0 e.1) l.name-iterator ≡ l.fn.out.items ++ flat_map (λ e. name_text e.0 e.1) (entries l.names))
