-- The world at the start.
use Rattle.std.specs.Prelude.{ℕ, zero, suc, false, None}
use Rattle.std.specs.Ordering.{nat_cmp}
use Rattle.std.specs.FinMap.{FinMap, empty, insert}
use Rattle.vfs_tree.specs.Place.{Mem}
use Rattle.vfs_tree.specs.declared.limits.Limits.{Limits}
use Rattle.vfs_tree.specs.declared.node.Node.{Node}
use Rattle.vfs_tree.specs.declared.node.Node.TheVariants.{Dir}
use Rattle.vfs_tree.specs.declared.node.Store.{Store}
use Rattle.vfs_tree.specs.declared.mount.Mount.{Mount}
use Rattle.vfs_tree.specs.declared.mount.MountKind.TheVariants as kind
use Rattle.vfs_tree.specs.declared.open.Cwd.{Cwd}
use Rattle.vfs_tree.specs.declared.world.World.{World}

-- a directory without names
abbrev pub empty_dir : ℕ → Node
empty_dir parent = Dir parent false empty

-- a store that has its root directory alone
abbrev pub empty_store : Store
empty_store = record { nodes = insert empty 1 (empty_dir 1); next = 2 }

-- the root mount
abbrev pub root_mount : Mount
root_mount = record { number = 0; kind = kind.Mem; on = None; cut = false }

-- the root directory as a current directory
abbrev pub root_cwd : Cwd
root_cwd = record { place = Mem 0 1; dead = false }

-- the current directories of the callers from 1 to n
abbrev pub root_cwds : ℕ → FinMap nat_cmp Cwd
root_cwds zero = empty
root_cwds (suc n) = insert (root_cwds n) (suc n) root_cwd

-- mount 0 with an empty root, which is every caller's current directory
abbrev pub start_world : Limits → World
start_world limits = record {
  stores = insert empty 0 empty_store;
  mounts = insert empty 0 root_mount;
  opens = empty;
  cwds = root_cwds limits.callers;
  leaving = empty;
  next_mount = 1;
  limits = limits;
}
