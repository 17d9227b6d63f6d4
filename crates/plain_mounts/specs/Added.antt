-- What a world becomes by a new memory file system.
use Rattle.std.specs.Prelude.{ℕ, Option, Some, None}
use Rattle.std.specs.Ordering.{nat_cmp}
use Rattle.std.specs.FinMap.{FinMap, insert, remove}
use Rattle.vfs_tree.specs.Place.{Seen}
use Rattle.vfs_tree.specs.Start.{empty_store}
use Rattle.vfs_tree.specs.declared.mount.MountKind.TheVariants as kind
use Rattle.vfs_tree.specs.declared.node.Store.{Store}
use Rattle.vfs_tree.specs.declared.world.World.{World}
use Rattle.call_model.specs.MountRows.{with_mount}

-- a new memory file system on a directory
abbrev pub with_mem : World → Seen → World
with_mem w on = with_mount (record w { stores = insert w.stores w.next_mount empty_store }) kind.Mem on

-- the stores with that one at a number, or with none there
abbrev pub with_value : FinMap nat_cmp Store → ℕ → Option Store → FinMap nat_cmp Store
with_value m n (Some t) = insert m n t
with_value m n None = remove m n
