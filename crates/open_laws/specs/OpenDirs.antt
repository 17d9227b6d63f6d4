-- Directories that are open.
use Rattle.std.specs.Prelude.{ℕ, ◌≡◌, true, false, Some}
use Rattle.std.specs.FinMap.{get}
use Rattle.vfs_tree.specs.Layers.{is_dir}
use Rattle.vfs_tree.specs.Views.{facts_of}
use Rattle.vfs_tree.specs.declared.open.Open.{Open}
use Rattle.vfs_tree.specs.declared.world.World.{World}

-- an open directory that isn't dead
pub record IsOpenDir (w : World) (o : Open) : Type 0 where
  -- the caller and the descriptor by which it is open
  pub key : ℕ × ℕ
  pub at : get w.opens key ≡ Some o
  pub alive : o.dead ≡ false
  pub dir : is_dir (facts_of w) o.place ≡ true
