use Rattle.std.proofs.Common.{◌≡◌}
use Rattle.std.specs.List.{find}
use Rattle.std.specs.FinMap.{entries}
use Rattle.vfs_tree.specs.Views.{gives}
use Rattle.vfs_tree.proofs.links.NameMap+NameEntry.name_of.Given as goal

-- the first name is that of what is left
abbrev pub invariant-loop-name : goal.invariant-loop-name
invariant-loop-name l =
    (goal.iterator-loop-name).can_next l.name-iterator ×
    (goal.iterator-loop-name).is_finite l.name-iterator ×
    (find (λ e. gives l.ino e.1) (entries l.self) ≡ find (λ e. gives l.ino e.1) l.name-iterator)
