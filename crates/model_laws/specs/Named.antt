-- The name of a directory.
use Rattle.std.specs.Prelude.{ℕ, ◌≡◌, List, Some}
use Rattle.vfs_tree.specs.Facts.{Facts}
use Rattle.vfs_tree.specs.Layers.{parent_ino}
use Rattle.vfs_tree.specs.declared.node.NameEntry.TheVariants.{Ino}

-- the name that a directory's parent has for it gives it there
pub record IsNamedAbove (f : Facts) (s i : ℕ) : Type 0 where
  pub name : List ℕ
  pub known : f.name_of s i ≡ Some name
  pub gives : f.entry s (parent_ino f s i) name ≡ Some (Ino i)
