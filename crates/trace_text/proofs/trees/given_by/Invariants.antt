use Rattle.std.proofs.Common.{◌≡◌, ℕ, ◌||◌, is_some}
use Rattle.std.specs.List.{list_any}
use Rattle.std.specs.FinMap.{get}
use Rattle.trace_text.specs.Trees.{gives, has_name}
use Rattle.trace_text.proofs.trees.given_by.Given as goal

-- what is known, and the nodes that are left, give what is asked for
abbrev pub invariant-loop-node : goal.invariant-loop-node
invariant-loop-node l =
    goal.iterator-loop-node.can_next l.node-iterator ×
    goal.iterator-loop-node.is_finite l.node-iterator ×
    ((ino : ℕ) → (is_some (get l.given ino) || list_any (λ e. gives ino e.1) l.node-iterator) ≡ has_name l.store ino)
