-- How many names give a node.
use Rattle.std.specs.Prelude.{ℕ, zero, suc, Bool, true, false, ◌+◌, cond, List, [], ◌∷◌, Option, Some, None}
use Rattle.std.specs.List.{list_any}
use Rattle.std.specs.Ordering.{nat_cmp}
use Rattle.std.specs.FinMap.{FinMap, values}
use Rattle.vfs_tree.specs.Views.{gives}
use Rattle.vfs_tree.specs.declared.node.NameEntry.{NameEntry}
use Rattle.vfs_tree.specs.declared.node.NameEntry.TheVariants.{Ino, White}
use Rattle.vfs_tree.specs.declared.node.Node.{Node}
use Rattle.vfs_tree.specs.declared.node.Node.TheVariants.{Dir, File, Link}

-- the sum of a function over a list
abbrev pub total : {X : Type 0} → (X → ℕ) → List X → ℕ
total f [] = 0
total f (x ∷ xs) = f x + total f xs

-- what a function gives of a value, if there is one
abbrev pub optional : {X : Type 0} → (X → ℕ) → Option X → ℕ
optional f (Some x) = f x
optional f None = 0

-- whether a number is not zero
abbrev pub above_zero : ℕ → Bool
above_zero zero = false
above_zero (suc n) = true

-- one for an entry that gives the node
abbrev pub weight : ℕ → NameEntry → ℕ
weight i e = cond (gives i e) 1 0

-- how many names of a node that is a directory give another
abbrev pub names_giving : ℕ → Node → ℕ
names_giving i (Dir parent opaque names) = total (weight i) (values names)
names_giving i (File bytes) = 0
names_giving i (Link target) = 0

-- how many names of a store give a node
abbrev pub times : FinMap nat_cmp Node → ℕ → ℕ
times nodes i = total (names_giving i) (values nodes)

-- ---- whether names give nodes at all

abbrev pub gives_node : NameEntry → Bool
gives_node (Ino i) = true
gives_node White = false

-- whether a node is a directory one of whose names gives a node
abbrev pub gives_some : Node → Bool
gives_some (Dir parent opaque names) = list_any gives_node (values names)
gives_some (File bytes) = false
gives_some (Link target) = false

-- the same of a node that may be missing
abbrev pub gives_some_at : Option Node → Bool
gives_some_at (Some node) = gives_some node
gives_some_at None = false
