-- Dead flags: which open files and current directories were doomed.
use Rattle.std.specs.Prelude.{ℕ, ◌≡◌, Bool, true, false, Option, Some, None}
use Rattle.std.specs.FinMap.{get}
use Rattle.vfs_tree.specs.declared.open.Cwd.{Cwd}
use Rattle.vfs_tree.specs.declared.open.Open.{Open}
use Rattle.vfs_tree.specs.declared.world.World.{World}

abbrev pub is_dead_open : Option Open → Bool
is_dead_open (Some o) = o.dead
is_dead_open None = false

abbrev pub is_dead_cwd : Option Cwd → Bool
is_dead_cwd (Some d) = d.dead
is_dead_cwd None = false

-- what is dead in the new world was dead in the old one
pub record SetsNoFlag (old new : World) : Type 0 where
  pub opens : (k : ℕ × ℕ) → is_dead_open (get new.opens k) ≡ true → is_dead_open (get old.opens k) ≡ true
  pub cwds : (c : ℕ) → is_dead_cwd (get new.cwds c) ≡ true → is_dead_cwd (get old.cwds c) ≡ true
