-- What an inner entry asks of the world: the number of a node, where it makes one.
use Rattle.std.specs.Prelude.{◌≡◌, false}
use Rattle.vfs_tree.specs.declared.world.World.{World}
use Rattle.call_model.specs.Checks.{is_full, upper_store}
use Rattle.call_model.specs.declared.entry.Inner.{Inner}
use Rattle.call_model.specs.declared.entry.Inner.TheVariants.{Shadow, CopyUp, Detach, Doom}

-- where it makes a node, the store has a number left
abbrev pub HasRoom : World → Inner → Type 0
HasRoom w (Shadow m u n) = is_full w (upper_store w m) ≡ false
HasRoom w (CopyUp m u n) = is_full w (upper_store w m) ≡ false
HasRoom w (Detach m) = Unit {0}
HasRoom w (Doom at) = Unit {0}

-- whether it is a doom
abbrev pub IsDoom : Inner → Type 0
IsDoom (Shadow m u n) = ⊥
IsDoom (CopyUp m u n) = ⊥
IsDoom (Detach m) = ⊥
IsDoom (Doom at) = Unit {0}
