-- Sound worlds that last.
use Rattle.vfs_tree.specs.Sound.{IsSound}
use Rattle.vfs_tree.specs.declared.world.World.{World}
use Rattle.call_laws.specs.Lasting.{IsLasting}

pub record IsWhole (w : World) : Type 0 where
  pub sound : IsSound w
  pub lasts : IsLasting w
