-- What a directory has at a name, and what a union's directory has below it.
use Rattle.std.specs.Prelude.{ℕ, zero, suc, Bool, true, false, ◌||◌, ◌==◌, if◌then◌else◌, List, Option, Some, None}
use Rattle.vfs_tree.specs.Place.{Seen, Mem, Null, UnionUp, UnionLow, mount_of}
use Rattle.vfs_tree.specs.Facts.{Facts}
use Rattle.vfs_tree.specs.Layers.{kind_in, is_dir, is_linked, is_opaque, parent_ino}
use Rattle.vfs_tree.specs.declared.mount.MountKind.{MountKind}
use Rattle.vfs_tree.specs.declared.mount.MountKind.TheVariants as kind
use Rattle.vfs_tree.specs.declared.node.NameEntry.{NameEntry}
use Rattle.vfs_tree.specs.declared.node.NameEntry.TheVariants.{Ino, White}
use Rattle.vfs_tree.specs.declared.walk.Child.{Child}
use Rattle.vfs_tree.specs.declared.walk.Child.TheVariants as child
use Rattle.vfs_tree.specs.declared.walk.Need.{Need}

-- what a directory has at a name
abbrev pub Lookup : Type 0
Lookup = Seen → List ℕ → Child

-- ---- a directory of a memory file system: a whiteout is absent

abbrev pub child_mem : ℕ → Option NameEntry → Child
child_mem m (Some (Ino i)) = child.At (Mem m i)
child_mem m (Some White) = child.Absent
child_mem m None = child.Absent

-- ---- a null mount: what the lower directory has, seen through the mount

abbrev pub child_null : ℕ → Child → Child
child_null m (child.At p) = child.At (Null m p)
child_null m child.Absent = child.Absent
child_null m (child.Need x) = child.Need x

-- ---- a union

-- what the lower part has, where there is one
abbrev pub child_below : Lookup → Child → List ℕ → Child
child_below look (child.At d) n = look d n
child_below look child.Absent n = child.Absent
child_below look (child.Need x) n = child.Need x

-- what the lower layer alone has: a directory needs its shadow in the upper layer first
abbrev pub child_low : Facts → ℕ → ℕ → List ℕ → Child → Child
child_low f m u n (child.At q) =
    if is_dir f q then child.Need (record { mount = m; dir = u; name = n }) else child.At (UnionLow m u n q)
child_low f m u n child.Absent = child.Absent
child_low f m u n (child.Need x) = child.Need x

-- by the upper entry: an inode or a whiteout hides what the lower part has
abbrev pub child_union : Facts → ℕ → ℕ → List ℕ → Option NameEntry → (List ℕ → Child) → Child
child_union f m u n (Some (Ino i)) below = child.At (UnionUp m i)
child_union f m u n (Some White) below = child.Absent
child_union f m u n None below = child_low f m u n (below n)

-- ---- the lower part of a union's directory

-- what the lower part of the parent has at the directory's own name, where that is a directory
abbrev pub only_dir : Facts → Child → Child
only_dir f (child.At q) = if is_dir f q then child.At q else child.Absent
only_dir f child.Absent = child.Absent
only_dir f (child.Need x) = child.Need x

abbrev pub below_named : Lookup → Child → Option (List ℕ) → Child
below_named look d (Some n) = child_below look d n
below_named look d None = child.Absent

-- the lower layer for the upper layer's own directory; none for a directory that is opaque or the root of its store;
-- else what the parent's lower part has
abbrev pub low_case : Facts → Lookup → ℕ → Seen → (ℕ → Child) → ℕ → Bool → Bool → Child
low_case f look s lower up u true ends = child.At lower
low_case f look s lower up u false true = child.Absent
low_case f look s lower up u false false = only_dir f (below_named look (up (parent_ino f s u)) (f.name_of s u))

abbrev pub low_within : ℕ → Facts → Lookup → ℕ → ℕ → Seen → ℕ → Child
low_within zero f look s upper lower u = child.Absent
low_within (suc k) f look s upper lower u =
    low_case f look s lower (low_within k f look s upper lower) u (u == upper) (is_opaque f s u || (u == 1))

-- more steps than a directory has directories above it, and than there are mounts
unfoldable pub steps : ℕ
steps = 4294967295

-- a directory that isn't linked has no lower part
abbrev pub low_by : Facts → Lookup → ℕ → Option MountKind → Child
low_by f look u (Some (kind.Union s upper lower)) =
    if is_linked f s u then low_within steps f look s upper lower u else child.Absent
low_by f look u (Some kind.Mem) = child.Absent
low_by f look u (Some (kind.Null layer)) = child.Absent
low_by f look u None = child.Absent

abbrev pub upper_entry : Facts → Option MountKind → ℕ → List ℕ → Option NameEntry
upper_entry f (Some (kind.Union s upper lower)) u n = f.entry s u n
upper_entry f (Some kind.Mem) u n = None
upper_entry f (Some (kind.Null layer)) u n = None
upper_entry f None u n = None

-- ---- both, through at most k mounts

abbrev pub child_within : ℕ → Facts → Lookup
child_within zero f d n = child.Absent
child_within (suc k) f (Mem m i) n = child_mem m (f.entry m i n)
child_within (suc k) f (Null m p) n = child_null m (child_within k f p n)
child_within (suc k) f (UnionUp m u) n =
    child_union f m u n (upper_entry f (kind_in f m) u n) (child_below (child_within k f) (low_by f (child_within k f) u (kind_in f m)))
child_within (suc k) f (UnionLow m u a p) n = child.Absent

-- What a directory has at a name. The layers of a mount lie in mounts with smaller numbers, so no more are passed than
-- its number.
abbrev pub child_of : Facts → Lookup
child_of f d n = child_within (suc (mount_of d)) f d n

-- What a union's directory has below it: a directory, nothing, or one that needs a shadow first.
abbrev pub low : Facts → ℕ → ℕ → Child
low f m u = low_by f (child_within m f) u (kind_in f m)
