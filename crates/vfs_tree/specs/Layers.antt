-- Mounts and what they show: the layers of a place.
use Rattle.std.specs.Prelude.{ℕ, zero, suc, ◌+◌, Bool, true, false, ◌&&◌, ◌==◌, List, [], ◌∷◌, ◌++◌, Option, Some, None, option_map, option_and_then}
use Rattle.std.specs.Str.{bytes_eq}
use Rattle.vfs_tree.specs.Place.{Seen, Mem, Null, UnionUp, UnionLow, mount_of}
use Rattle.vfs_tree.specs.Facts.{Facts}
use Rattle.vfs_tree.specs.declared.mount.Mount.{Mount}
use Rattle.vfs_tree.specs.declared.mount.MountKind.{MountKind}
use Rattle.vfs_tree.specs.declared.mount.MountKind.TheVariants as kind
use Rattle.vfs_tree.specs.declared.node.Kind.{Kind}
use Rattle.vfs_tree.specs.declared.node.Kind.TheVariants.{Dir, File, Link}
use Rattle.vfs_tree.specs.declared.view.DirFacts.{DirFacts}
use Rattle.vfs_tree.specs.declared.walk.NodeId.{NodeId}

-- ---- places

-- whether the two are one place
abbrev pub same_place : Seen → Seen → Bool
same_place (Mem m i) (Mem n j) = (m == n) && (i == j)
same_place (Null m p) (Null n q) = (m == n) && same_place p q
same_place (UnionUp m i) (UnionUp n j) = (m == n) && (i == j)
same_place (UnionLow m u a p) (UnionLow n v b q) = (m == n) && ((u == v) && (bytes_eq a b && same_place p q))
same_place _ _ = false

-- ---- mounts

-- what a mount shows
abbrev pub kind_in : Facts → ℕ → Option MountKind
kind_in f m = option_map (λ t. t.kind) (f.mount m)

-- the root of a mount of some kind
abbrev pub root_by : ℕ → Option MountKind → Seen
root_by m (Some kind.Mem) = Mem m 1
root_by m (Some (kind.Null layer)) = Null m layer
root_by m (Some (kind.Union s u l)) = UnionUp m u
root_by m None = Mem m 1

-- the root of a mount
abbrev pub root_of : Facts → ℕ → Seen
root_of f m = root_by m (kind_in f m)

-- whether a place is the root of its mount
abbrev pub is_root : Facts → Seen → Bool
is_root f p = same_place p (root_of f (mount_of p))

-- the directory that a mount covers
abbrev pub on_of : Facts → ℕ → Option Seen
on_of f m = option_and_then (λ t. t.on) (f.mount m)

abbrev pub cut_by : Option Mount → Bool
cut_by (Some t) = t.cut
cut_by None = false

-- whether a forced unmount has cut a mount off
abbrev pub is_cut : Facts → ℕ → Bool
is_cut f m = cut_by (f.mount m)

-- the mount number of the memory file system in which a union has its upper layer
abbrev pub store_by : Option MountKind → ℕ
store_by (Some (kind.Union s u l)) = s
store_by (Some kind.Mem) = 0
store_by (Some (kind.Null layer)) = 0
store_by None = 0

-- ---- the node on which a place rests

-- A place of a union rests on its upper node; a place that is seen through others, on the node of the lowest.
abbrev pub base : Facts → Seen → NodeId
base f (Mem m i) = record { store = m; ino = i }
base f (Null m p) = base f p
base f (UnionUp m i) = record { store = store_by (kind_in f m); ino = i }
base f (UnionLow m u n p) = base f p

-- whether the two are one node
abbrev pub same_node : NodeId → NodeId → Bool
same_node a b = (a.store == b.store) && (a.ino == b.ino)

-- what a place is
abbrev pub kind_of : Facts → Seen → Option Kind
kind_of f p = let b = base f p in f.kind b.store b.ino

abbrev pub is_dir_kind : Option Kind → Bool
is_dir_kind (Some Dir) = true
is_dir_kind (Some File) = false
is_dir_kind (Some Link) = false
is_dir_kind None = false

-- whether it is a directory
abbrev pub is_dir : Facts → Seen → Bool
is_dir f p = is_dir_kind (kind_of f p)

abbrev pub is_file_kind : Option Kind → Bool
is_file_kind (Some File) = true
is_file_kind (Some Dir) = false
is_file_kind (Some Link) = false
is_file_kind None = false

-- whether it is a regular file
abbrev pub is_file : Facts → Seen → Bool
is_file f p = is_file_kind (kind_of f p)

-- the path that it stands for, where it is a link
abbrev pub target_of : Facts → Seen → Option (List ℕ)
target_of f p = let b = base f p in f.target b.store b.ino

abbrev pub linked_by : Option DirFacts → Bool
linked_by (Some d) = d.linked
linked_by None = false

-- whether a directory of a store is its root or some name of the store gives it
abbrev pub is_linked : Facts → ℕ → ℕ → Bool
is_linked f s i = linked_by (f.dir s i)

abbrev pub opaque_by : Option DirFacts → Bool
opaque_by (Some d) = d.opaque
opaque_by None = false

-- whether a union shows nothing of the lower layer in a directory
abbrev pub is_opaque : Facts → ℕ → ℕ → Bool
is_opaque f s i = opaque_by (f.dir s i)

abbrev pub parent_by : ℕ → Option DirFacts → ℕ
parent_by i (Some d) = d.parent
parent_by i None = i

-- the inode number of the parent of a directory of a store
abbrev pub parent_ino : Facts → ℕ → ℕ → ℕ
parent_ino f s i = parent_by i (f.dir s i)

-- ---- the parent of a directory within its mount; the root is its own

abbrev pub parent_unless : Bool → Seen → Seen → Seen
parent_unless true d up = d
parent_unless false d up = up

abbrev pub parent_in : Facts → Seen → Seen
parent_in f (Mem m i) = parent_unless (is_root f (Mem m i)) (Mem m i) (Mem m (parent_ino f m i))
parent_in f (Null m p) = parent_unless (is_root f (Null m p)) (Null m p) (Null m (parent_in f p))
parent_in f (UnionUp m i) = parent_unless (is_root f (UnionUp m i)) (UnionUp m i) (UnionUp m (parent_ino f (store_by (kind_in f m)) i))
parent_in f (UnionLow m u n p) = UnionLow m u n p

-- ---- what stands under a mount. Its layers lie in mounts with smaller numbers, so no more are passed than its number.

abbrev pub depth_by : (ℕ → ℕ) → Option MountKind → ℕ
depth_by below (Some kind.Mem) = 0
depth_by below (Some (kind.Null layer)) = 1 + below (mount_of layer)
depth_by below (Some (kind.Union s u l)) = 1 + below (mount_of l)
depth_by below None = 0

abbrev pub depth_within : ℕ → Facts → ℕ → ℕ
depth_within zero f m = 0
depth_within (suc k) f m = depth_by (depth_within k f) (kind_in f m)

-- how many layers a place has under it: none in a memory mount, and one more than the lower layer in another
abbrev pub depth : Facts → Seen → ℕ
depth f p = depth_within (suc (mount_of p)) f (mount_of p)

abbrev pub stores_by : (ℕ → List ℕ) → ℕ → Option MountKind → List ℕ
stores_by below m (Some kind.Mem) = m ∷ []
stores_by below m (Some (kind.Null layer)) = below (mount_of layer)
stores_by below m (Some (kind.Union s u l)) = s ∷ below (mount_of l)
stores_by below m None = []

abbrev pub stores_within : ℕ → Facts → ℕ → List ℕ
stores_within zero f m = []
stores_within (suc k) f m = stores_by (stores_within k f) m (kind_in f m)

-- the memory mounts on which a place's mount rests
abbrev pub stores : Facts → Seen → List ℕ
stores f p = stores_within (suc (mount_of p)) f (mount_of p)
