-- Where a walk needs a shadow directory.
use Rattle.std.specs.Prelude.{ℕ, ◌≡◌, true, List, None}
use Rattle.vfs_tree.specs.Facts.{Facts}
use Rattle.vfs_tree.specs.Layers.{kind_in, store_by, is_linked}

-- a union's directory is linked in the upper layer, which has nothing at the name
pub record IsFree (f : Facts) (m u : ℕ) (n : List ℕ) : Type 0 where
  pub linked : is_linked f (store_by (kind_in f m)) u ≡ true
  pub free : f.entry (store_by (kind_in f m)) u n ≡ None
