-- Views that show the same: names, nodes and mounts.
use Rattle.std.specs.Prelude.{ℕ, ◌≡◌, List}
use Rattle.vfs_tree.specs.Facts.{Facts}
use Rattle.vfs_tree.specs.Place.{Seen}

-- what walks read is the same in both
pub record ShowsSame (f g : Facts) : Type 0 where
  pub entry : (s d : ℕ) (n : List ℕ) → f.entry s d n ≡ g.entry s d n
  pub kind : (s i : ℕ) → f.kind s i ≡ g.kind s i
  pub dir : (s i : ℕ) → f.dir s i ≡ g.dir s i
  pub name_of : (s i : ℕ) → f.name_of s i ≡ g.name_of s i
  pub target : (s i : ℕ) → f.target s i ≡ g.target s i
  pub covering : (p : Seen) → f.covering p ≡ g.covering p
  pub mount : (m : ℕ) → f.mount m ≡ g.mount m
