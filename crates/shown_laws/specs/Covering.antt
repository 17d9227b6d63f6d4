-- Which mounts cover places, in what walks read.
use Rattle.std.specs.Prelude.{ℕ, ◌≡◌, true, false, Some}
use Rattle.vfs_tree.specs.Facts.{Facts}
use Rattle.vfs_tree.specs.Layers.{is_cut, on_of}
use Rattle.vfs_tree.specs.Mounts.{is_on}
use Rattle.vfs_tree.specs.Place.{Seen}

-- what walks read of which mount covers a place
pub record IsCovered (f : Facts) : Type 0 where
  -- what covers a place is a mount that is on it
  pub on : (p : Seen) (m : ℕ) → f.covering p ≡ Some m → is_on (on_of f m) p ≡ true
  -- and a mount that is on a place, and isn't cut, covers it
  pub covers : (p : Seen) (m : ℕ) → is_on (on_of f m) p ≡ true → is_cut f m ≡ false → f.covering p ≡ Some m
