-- Descriptors that open(2) answers.
use Rattle.std.specs.Prelude.{ℕ, ◌≡◌, ◌<◌, false, Some, None, IsSome}
use Rattle.std.specs.FinMap.{get}
use Rattle.vfs_tree.specs.declared.open.Open.{Open}
use Rattle.vfs_tree.specs.declared.world.World.{World}
use Rattle.call_model.specs.DataRows.{mode_of}
use Rattle.call_model.specs.declared.call.Flags.{Flags}

-- a caller's descriptor is free, and each lower one is taken
pub record IsLowestFree (w : World) (c fd : ℕ) : Type 0 where
  pub free : get w.opens (c, fd) ≡ None
  pub taken : (e : ℕ) → e < fd → IsSome (get w.opens (c, e))

-- a caller's descriptor stands for something that was just opened with some flags
pub record IsJustOpened (w : World) (c fd : ℕ) (f : Flags) : Type 0 where
  pub file : Open
  pub at : get w.opens (c, fd) ≡ Some file
  pub start : file.offset ≡ 0
  pub mode : file.mode ≡ mode_of f
  pub alive : file.dead ≡ false
