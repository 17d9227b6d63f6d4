-- Small worlds, each made of one before it.
use Rattle.std.specs.Prelude.{ℕ, true, false, List, [], ◌∷◌, codes, Some}
use Rattle.std.specs.FinMap.{empty, insert, from_entries}
use Rattle.vfs_tree.specs.Place.{Seen, Mem, Null, UnionUp, UnionLow}
use Rattle.vfs_tree.specs.Start.{empty_dir, empty_store, start_world, root_mount}
use Rattle.vfs_tree.specs.declared.limits.Limits.{Limits}
use Rattle.vfs_tree.specs.declared.mount.Mount.{Mount}
use Rattle.vfs_tree.specs.declared.mount.MountKind.{MountKind}
use Rattle.vfs_tree.specs.declared.mount.MountKind.TheVariants as kind
use Rattle.vfs_tree.specs.declared.node.NameEntry.TheVariants.{Ino, White}
use Rattle.vfs_tree.specs.declared.node.Node.{Node}
use Rattle.vfs_tree.specs.declared.node.Node.TheVariants.{Dir, File, Link}
use Rattle.vfs_tree.specs.declared.node.Store.{Store}
use Rattle.vfs_tree.specs.declared.open.Mode.{Mode}
use Rattle.vfs_tree.specs.declared.open.Open.{Open}
use Rattle.vfs_tree.specs.declared.world.World.{World}
use Rattle.call_model.specs.declared.call.Access.{Access}
use Rattle.call_model.specs.declared.call.Flags.{Flags}

-- ---- plain trees

-- two callers, four descriptors, four mounts
abbrev pub few : Limits
few = record { callers = 2; files = 4; mounts = 4; vnodes = 400 }

-- the world at the start
abbrev pub start : World
start = start_world few

-- a store whose root has one name, of a node with the number 2
abbrev pub one_name : List ℕ → Node → Store
one_name n node = record {
  nodes = from_entries ((1, Dir 1 false (from_entries ((n, Ino 2) ∷ []))) ∷ (2, node) ∷ []);
  next = 3;
}

-- the start with another store of the root mount
abbrev pub with_root : Store → World
with_root t = record start { stores = insert start.stores 0 t }

-- a directory `/a`
abbrev pub with_a : World
with_a = with_root (one_name (codes "a") (empty_dir 1))

-- a file `/f` of three bytes
abbrev pub with_f : World
with_f = with_root (one_name (codes "f") (File (codes "low")))

-- the file has a second name `/g`
abbrev pub with_fg : World
with_fg = with_root (record {
  nodes = from_entries (
      (1, Dir 1 false (from_entries ((codes "f", Ino 2) ∷ (codes "g", Ino 2) ∷ [])))
      ∷ (2, File (codes "low"))
      ∷ []);
  next = 3;
})

-- a link `/z` to itself
abbrev pub with_z : World
with_z = with_root (one_name (codes "z") (Link (codes "/z")))

-- directories `/a` and `/b`
abbrev pub with_ab : World
with_ab = with_root (record {
  nodes = from_entries (
      (1, Dir 1 false (from_entries ((codes "a", Ino 2) ∷ (codes "b", Ino 3) ∷ [])))
      ∷ (2, empty_dir 1)
      ∷ (3, empty_dir 1)
      ∷ []);
  next = 4;
})

-- the start, where no inode number is left
abbrev pub used_up : World
used_up = with_root (record empty_store { next = 4294967295 })

-- and one where no mount number is left
abbrev pub all_mounted : World
all_mounted = record with_a { next_mount = 4294967295 }

-- ---- open files

abbrev pub reads : Mode
reads = record { read = true; write = false; append = false }

abbrev pub writes : Mode
writes = record { read = false; write = true; append = false }

-- opened at a place, at the start of the file
abbrev pub opened : Seen → Mode → Open
opened p mode = record { place = p; offset = 0; mode = mode; dead = false }

-- doomed
abbrev pub dead : Seen → Mode → Open
dead p mode = record { place = p; offset = 0; mode = mode; dead = true }

-- to open what is there already
abbrev pub flags : Access → Flags
flags a = record { access = a; make = false; fresh = false; cut = false; append = false; dir = false }

-- to open a file, which is made where it isn't there
abbrev pub making : Access → Flags
making a = record (flags a) { make = true }

-- caller 1 has an open file
abbrev pub with_first : World → Open → World
with_first w o = record w { opens = from_entries (((1, 0), o) ∷ []) }

-- and so has caller 2
abbrev pub with_both : World → Open → Open → World
with_both w o q = record w { opens = from_entries (((1, 0), o) ∷ ((2, 0), q) ∷ []) }

-- `/f` is open for reading
abbrev pub read_f : World
read_f = with_first with_f (opened (Mem 0 2) reads)

-- `/f` is open for writing
abbrev pub write_f : World
write_f = with_first with_f (opened (Mem 0 2) writes)

-- `/f` was open for reading, and is doomed
abbrev pub dead_f : World
dead_f = with_first with_f (dead (Mem 0 2) reads)

-- ---- mounts

-- a mount that isn't cut, on a directory
abbrev pub mount_on : ℕ → MountKind → Seen → Mount
mount_on m shows on = record { number = m; kind = shows; on = Some on; cut = false }

-- a mount that is cut
abbrev pub cut_mount : ℕ → MountKind → Seen → Mount
cut_mount m shows on = record { number = m; kind = shows; on = Some on; cut = true }

-- a memory file system on `/a`
abbrev pub mounted : World
mounted = record with_ab {
  stores = insert with_ab.stores 1 empty_store;
  mounts = insert with_ab.mounts 1 (mount_on 1 kind.Mem (Mem 0 2));
  next_mount = 2;
}

-- it was mounted once: its store and its number stay
abbrev pub unmounted : World
unmounted = record mounted { mounts = with_ab.mounts }

-- a null layer on `/b` shows that file system
abbrev pub viewed : World
viewed = record mounted {
  mounts = insert mounted.mounts 2 (mount_on 2 (kind.Null (Mem 1 1)) (Mem 0 3));
  next_mount = 3;
}

-- caller 1 has its root open, and caller 2 the same through the null layer
abbrev pub used : World
used = with_both viewed (opened (Mem 1 1) reads) (opened (Null 2 (Mem 1 1)) reads)

-- caller 1 is leaving the file system: it is cut, and so is the null layer
abbrev pub left : World
left = record used {
  mounts = from_entries (
      (0, root_mount)
      ∷ (1, cut_mount 1 kind.Mem (Mem 0 2))
      ∷ (2, cut_mount 2 (kind.Null (Mem 1 1)) (Mem 0 3))
      ∷ []);
  leaving = insert used.leaving 1 1;
}

-- caller 2's directory is doomed
abbrev pub one_dead : World
one_dead = with_both left (opened (Mem 1 1) reads) (dead (Null 2 (Mem 1 1)) reads)

-- and caller 1's
abbrev pub all_dead : World
all_dead = with_both left (dead (Mem 1 1) reads) (dead (Null 2 (Mem 1 1)) reads)

-- the file system is gone, the null layer stays
abbrev pub gone : World
gone = record all_dead {
  mounts = from_entries ((0, root_mount) ∷ (2, cut_mount 2 (kind.Null (Mem 1 1)) (Mem 0 3)) ∷ []);
  leaving = empty;
}

-- ---- unions

-- the tree of the root mount: a directory `/l` that has a directory `d` with a file `x`, and a file `f`; and an empty
-- directory `/u`
abbrev pub lower_store : Store
lower_store = record {
  nodes = from_entries (
      (1, Dir 1 false (from_entries ((codes "l", Ino 2) ∷ (codes "u", Ino 3) ∷ [])))
      ∷ (2, Dir 1 false (from_entries ((codes "d", Ino 4) ∷ (codes "f", Ino 5) ∷ [])))
      ∷ (3, empty_dir 1)
      ∷ (4, Dir 2 false (from_entries ((codes "x", Ino 6) ∷ [])))
      ∷ (5, File (codes "low"))
      ∷ (6, File (codes "x"))
      ∷ []);
  next = 7;
}

-- a memory file system on `/u`, with a store of its own
abbrev pub apart : Store → World
apart t = record start {
  stores = from_entries ((0, lower_store) ∷ (1, t) ∷ []);
  mounts = from_entries ((0, root_mount) ∷ (1, mount_on 1 kind.Mem (Mem 0 3)) ∷ []);
  next_mount = 2;
}

-- a union on `/l`: its upper layer is the root of that store, its lower one is `/l`
abbrev pub union : Store → World
union t = record (apart t) {
  mounts = insert (apart t).mounts 2 (mount_on 2 (kind.Union 1 1 (Mem 0 2)) (Mem 0 2));
  next_mount = 3;
}

-- the upper layer is empty
abbrev pub layered : World
layered = union empty_store

-- and has no inode number left
abbrev pub layered_full : World
layered_full = union (record empty_store { next = 4294967295 })

-- it has a whiteout at `f`
abbrev pub hidden : World
hidden = union (record {
  nodes = from_entries ((1, Dir 1 false (from_entries ((codes "f", White) ∷ []))) ∷ []);
  next = 2;
})

-- it has a shadow directory `d`
abbrev pub shadowed : World
shadowed = union (one_name (codes "d") (empty_dir 1))

-- the shadow directory has a whiteout at `x`
abbrev pub emptied : World
emptied = union (one_name (codes "d") (Dir 1 false (from_entries ((codes "x", White) ∷ []))))

-- the directory `d` was removed: a whiteout stands at its name
abbrev pub removed : World
removed = union (record {
  nodes = from_entries ((1, Dir 1 false (from_entries ((codes "d", White) ∷ []))) ∷ (2, empty_dir 1) ∷ []);
  next = 3;
})

-- and was made again: it is opaque
abbrev pub remade : World
remade = union (record {
  nodes = from_entries (
      (1, Dir 1 false (from_entries ((codes "d", Ino 3) ∷ [])))
      ∷ (2, empty_dir 1)
      ∷ (3, Dir 1 true empty)
      ∷ []);
  next = 4;
})

-- caller 1 reads `f` of the lower layer
abbrev pub read_low : World
read_low = with_first layered (opened (UnionLow 2 1 (codes "f") (Mem 0 5)) reads)

-- the file is copied to the upper layer, where caller 1 reads it from now on
abbrev pub copied : World
copied = with_first (union (one_name (codes "f") (File (codes "low")))) (opened (UnionUp 2 2) reads)

-- caller 2 writes the copy
abbrev pub shared : World
shared = with_both copied (opened (UnionUp 2 2) reads) (opened (UnionUp 2 2) writes)
