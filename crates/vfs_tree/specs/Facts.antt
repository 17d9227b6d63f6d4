-- What walks read: the names, nodes and mounts, however they are kept.
use Rattle.std.specs.Prelude.{ℕ, List, Option}
use Rattle.vfs_tree.specs.Place.{Seen}
use Rattle.vfs_tree.specs.declared.mount.Mount.{Mount}
use Rattle.vfs_tree.specs.declared.node.Kind.{Kind}
use Rattle.vfs_tree.specs.declared.node.NameEntry.{NameEntry}
use Rattle.vfs_tree.specs.declared.view.DirFacts.{DirFacts}

-- each by the mount number of its store
pub record Facts : Type 0 where
  -- what a directory has at a name
  pub entry : ℕ → ℕ → List ℕ → Option NameEntry
  -- what a node is
  pub kind : ℕ → ℕ → Option Kind
  -- what is to be known of a directory
  pub dir : ℕ → ℕ → Option DirFacts
  -- the name that its parent has for a directory
  pub name_of : ℕ → ℕ → Option (List ℕ)
  -- the path that a link stands for
  pub target : ℕ → ℕ → Option (List ℕ)
  -- the number of the mount that covers a place
  pub covering : Seen → Option ℕ
  -- a mount by its number
  pub mount : ℕ → Option Mount
