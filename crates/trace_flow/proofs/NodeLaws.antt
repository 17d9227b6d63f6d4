-- The lines of a node, by the inode numbers that names give.
use Rattle.std.proofs.Common.{◌≡◌, ℕ, ◌||◌, ◌==◌, cond, List, [], ◌++◌, ap, ◌∙◌, is_some}
use Rattle.std.specs.Ordering.{nat_cmp}
use Rattle.std.specs.FinMap.{FinMap, get}
use Rattle.vfs_tree.specs.declared.node.Node.{Node}
use Rattle.vfs_tree.specs.declared.node.Store.{Store}
use Rattle.trace_text.specs.Node.{node_text}
use Rattle.trace_text.specs.Trees.{has_name, shown_text}

pub shown_grows : (store : Store) (given : FinMap nat_cmp (Unit {0})) (ino : ℕ) (node : Node) (buffer next : List ℕ) → ((i : ℕ) → is_some (get given i) ≡ has_name store i)
    → next ≡ buffer ++ cond (ino == 1 || is_some (get given ino)) (node_text ino node) [] → next ≡ buffer ++ shown_text store ino node
shown_grows store given ino node buffer next known grows = grows ∙ ap (λ b. buffer ++ cond (ino == 1 || b) (node_text ino node) []) (known ino)
