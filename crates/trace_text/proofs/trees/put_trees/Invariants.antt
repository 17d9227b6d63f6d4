use Rattle.std.proofs.Common.{◌≡◌, ◌++◌, flat_map}
use Rattle.trace_text.specs.Trees.{tree_text, trees_text}
use Rattle.trace_text.proofs.trees.put_trees.Given as goal

-- what is written, and after it the mounts that are left, make the text
abbrev pub invariant-loop-number : goal.invariant-loop-number
invariant-loop-number l =
    goal.iterator-loop-number.can_next l.number-iterator ×
    goal.iterator-loop-number.is_finite l.number-iterator ×
    (l.out.items ++ flat_map (λ e. tree_text l.world.stores e.0 e.1) l.number-iterator ≡ l.fn.out.items ++ trees_text l.world)
