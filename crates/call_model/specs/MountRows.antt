-- What the calls on mounts answer. Each takes what its paths find.
use Rattle.std.specs.Prelude.{ℕ, ◌+◌, false, not, ◌==◌, nat_lt, Option, Some, None}
use Rattle.std.specs.List.{list_any}
use Rattle.std.specs.FinMap.{get, insert, remove, len}
use Rattle.vfs_tree.specs.Place.{Seen, Mem, Null, UnionUp, UnionLow}
use Rattle.vfs_tree.specs.Layers.{is_file, same_place, depth, stores}
use Rattle.vfs_tree.specs.Mounts.{has_references, is_covered}
use Rattle.vfs_tree.specs.Start.{empty_store}
use Rattle.vfs_tree.specs.Steps.{◌>>=◌, ◌>>◌, refuse_if}
use Rattle.vfs_tree.specs.declared.walk.Step.TheVariants.{Go, Refuse, Wants}
use Rattle.vfs_tree.specs.Views.{facts_of}
use Rattle.vfs_tree.specs.declared.errno.Errno.TheVariants as errno
use Rattle.vfs_tree.specs.declared.mount.MountKind.{MountKind}
use Rattle.vfs_tree.specs.declared.mount.MountKind.TheVariants as kind
use Rattle.vfs_tree.specs.declared.walk.Found.{Found}
use Rattle.vfs_tree.specs.declared.walk.NodeId.{NodeId}
use Rattle.vfs_tree.specs.declared.world.World.{World}
use Rattle.call_model.specs.Checks.{Doing, Outcome, place_at, mount_at, dir_at}
use Rattle.call_model.specs.Refs.{first_in, first_open}
use Rattle.call_model.specs.declared.entry.Inner.TheVariants.{Detach, Doom}
use Rattle.call_model.specs.declared.entry.Ref.{Ref}
use Rattle.call_model.specs.declared.reply.Reply.TheVariants as reply

-- ---- new mounts

-- a new mount on a directory
abbrev pub with_mount : World → MountKind → Seen → World
with_mount w kind on = record w {
  mounts = insert w.mounts w.next_mount (record { number = w.next_mount; kind = kind; on = Some on; cut = false });
  next_mount = w.next_mount + 1;
}

-- there may be one mount more, leaving ones counted, and a number is left for it
abbrev pub check_mounts : World → Doing (Unit {0})
check_mounts w = do
  refuse_if (not (nat_lt (len w.mounts) w.limits.mounts)) errno.ENFILE
  refuse_if (w.next_mount == 4294967295) errno.ENOSPC

-- a memory file system, as tmpfs(5)
abbrev pub mount_mem : World → Found → Outcome
mount_mem w a = do
  on ← dir_at w a
  check_mounts w
  Go (with_mount (record w { stores = insert w.stores w.next_mount empty_store }) kind.Mem on, reply.Done)

-- the greatest depth of a place
abbrev pub most_depth : ℕ
most_depth = 4

-- a null layer, as mount_nullfs(8)
abbrev pub mount_null : World → Found → Found → Outcome
mount_null w a b = do
  layer ← dir_at w a
  on ← dir_at w b
  refuse_if (same_place layer on) errno.EDEADLK
  refuse_if (depth (facts_of w) layer == most_depth) errno.ELOOP
  check_mounts w
  Go (with_mount w (kind.Null layer) on, reply.Done)

-- the upper layer of a union is a directory of a memory file system
abbrev pub upper_of : Seen → Doing NodeId
upper_of (Mem m i) = Go (record { store = m; ino = i })
upper_of (Null m p) = Refuse errno.EINVAL
upper_of (UnionUp m i) = Refuse errno.EINVAL
upper_of (UnionLow m u n p) = Refuse errno.EINVAL

-- a union, as mount_unionfs(8): the upper layer, and the lower one, which the mount covers. The lower layer doesn't rest
-- on the memory file system of the upper one.
abbrev pub mount_union : World → Found → Found → Outcome
mount_union w a b = do
  up ← dir_at w a
  on ← dir_at w b
  upper ← upper_of up
  refuse_if (list_any (λ s. s == upper.store) (stores (facts_of w) on)) errno.EINVAL
  refuse_if (depth (facts_of w) on == most_depth) errno.ELOOP
  check_mounts w
  Go (with_mount w (kind.Union upper.store upper.ino on) on, reply.Done)

-- ---- unmount(2)

-- the mount is there no more, and the caller is leaving none
abbrev pub without_mount : World → ℕ → World
without_mount w m = record w { mounts = remove w.mounts m }

abbrev pub umount : World → Found → Outcome
umount w a = do
  m ← mount_at w a
  refuse_if (m == 0) errno.EINVAL
  refuse_if (has_references w m) errno.EBUSY
  Go (without_mount w m, reply.Done)

-- the caller, which was leaving the mount, has left it
abbrev pub left : World → ℕ → ℕ → World
left w c m = without_mount (record w { leaving = remove w.leaving c }) m

-- the live references in the mount, and in those that stand on it, are doomed one after the other
abbrev pub doom_next : World → ℕ → ℕ → Option Ref → Outcome
doom_next w c m (Some at) = Wants (Doom at)
doom_next w c m None = Go (left w c m, reply.Done)

-- the mount is detached first
abbrev pub detach_first : World → Found → Outcome
detach_first w a = do
  m ← mount_at w a
  refuse_if (m == 0) errno.EINVAL
  refuse_if (is_covered w m) errno.EBUSY
  Wants (Detach m)

abbrev pub umount_by : World → ℕ → Found → Option ℕ → Outcome
umount_by w c a (Some m) = doom_next w c m (first_in w m)
umount_by w c a None = detach_first w a

-- with MNT_FORCE
abbrev pub umount_force : World → ℕ → Found → Outcome
umount_force w c a = umount_by w c a (get w.leaving c)

-- ---- revoke(2)

-- the live open files of the file are doomed one after the other
abbrev pub revoke_next : World → Option Ref → Outcome
revoke_next w (Some at) = Wants (Doom at)
revoke_next w None = Go (w, reply.Done)

abbrev pub revoke : World → Found → Outcome
revoke w a = do
  p ← place_at w a
  refuse_if (not (is_file (facts_of w) p)) errno.EINVAL
  revoke_next w (first_open w p)
