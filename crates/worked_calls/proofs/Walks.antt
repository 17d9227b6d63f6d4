-- Where the paths of small worlds lead, by what is looked up on the way.
use Rattle.std.proofs.Common.{◌≡◌, ℕ, Bool, true, false, refl}
use Rattle.std.specs.Prelude.{codes, Some, None}
use Rattle.vfs_tree.specs.Facts.{Facts}
use Rattle.vfs_tree.specs.Place.{Seen, Mem, Null, UnionUp, UnionLow}
use Rattle.vfs_tree.specs.Start.{root_mount}
use Rattle.vfs_tree.specs.Layers.{is_dir, target_of}
use Rattle.vfs_tree.specs.Walk.{Walked, find}
use Rattle.vfs_tree.specs.declared.errno.Errno.TheVariants as errno
use Rattle.vfs_tree.specs.declared.mount.MountKind.TheVariants as kind
use Rattle.vfs_tree.specs.declared.node.Kind.TheVariants as node_kind
use Rattle.vfs_tree.specs.declared.node.NameEntry.TheVariants.{Ino, White}
use Rattle.vfs_tree.specs.declared.view.DirFacts.{DirFacts}
use Rattle.vfs_tree.specs.declared.walk.Found.TheVariants as found
use Rattle.vfs_tree.specs.declared.walk.Leaf.TheVariants as leaf
use Rattle.worked_calls.specs.Worlds.{mount_on, cut_mount}
use Rattle.worked_calls.proofs.Rules.{steps_are}

-- a directory that is linked
abbrev pub linked_dir : ℕ → Bool → DirFacts
linked_dir parent opaque = record { parent = parent; opaque = opaque; linked = true }

-- the root directory is linked, and nothing is mounted on it
pub record HasRoot (f : Facts) : Type 0 where
  pub bare : f.covering (Mem 0 1) ≡ None
  pub kind : f.kind 0 1 ≡ Some node_kind.Dir
  pub dir : f.dir 0 1 ≡ Some (linked_dir 1 false)

-- a union is mounted on `/l`, which is its lower layer
pub record HasUnion (f : Facts) : Type 0 where
  pub root : HasRoot f
  pub entry : f.entry 0 1 (codes "l") ≡ Some (Ino 2)
  pub target : f.target 0 2 ≡ None
  pub covered : f.covering (Mem 0 2) ≡ Some 2
  pub mount : f.mount 2 ≡ Some (mount_on 2 (kind.Union 1 1 (Mem 0 2)) (Mem 0 2))
  pub bare : f.covering (UnionUp 2 1) ≡ None
  pub is_dir : is_dir f (UnionUp 2 1) ≡ true
  pub dir : f.dir 1 1 ≡ Some (linked_dir 1 false)

-- a directory `/a`
pub a_dir : (f : Facts)
    → HasRoot f
    → f.entry 0 1 (codes "a") ≡ Some (Ino 2)
    → f.target 0 2 ≡ None
    → f.covering (Mem 0 2) ≡ None
    → (from : Walked Seen) → find f leaf.Follow from (codes "/a") ≡ found.At (Mem 0 2)
a_dir f root h1 h2 h3 from =
    simp (root.bare, root.kind, root.dir, h1, h2, h3, steps_are) refl

-- the same as the last name of a path
pub a_named : (f : Facts)
    → HasRoot f
    → f.entry 0 1 (codes "a") ≡ Some (Ino 2)
    → (from : Walked Seen) → find f leaf.Parent from (codes "/a") ≡ found.In (Mem 0 1) (codes "a") (Some (Mem 0 2))
a_named f root h1 from =
    simp (root.bare, root.kind, root.dir, h1, steps_are) refl

-- a missing name in it
pub b_in_a : (f : Facts)
    → HasRoot f
    → f.entry 0 1 (codes "a") ≡ Some (Ino 2)
    → f.target 0 2 ≡ None
    → f.covering (Mem 0 2) ≡ None
    → f.kind 0 2 ≡ Some node_kind.Dir
    → f.dir 0 2 ≡ Some (linked_dir 1 false)
    → f.entry 0 2 (codes "b") ≡ None
    → (from : Walked Seen) → find f leaf.Parent from (codes "/a/b") ≡ found.In (Mem 0 2) (codes "b") None
b_in_a f root h1 h2 h3 h4 h5 h6 from =
    simp (root.bare, root.kind, root.dir, h1, h2, h3, h4, h5, h6, steps_are) refl

-- a missing name `/b`
pub b_missing : (f : Facts)
    → HasRoot f
    → f.entry 0 1 (codes "b") ≡ None
    → (from : Walked Seen) → find f leaf.Parent from (codes "/b") ≡ found.In (Mem 0 1) (codes "b") None
b_missing f root h1 from =
    simp (root.bare, root.kind, root.dir, h1, steps_are) refl

-- a file `/f`
pub f_file : (f : Facts)
    → HasRoot f
    → f.entry 0 1 (codes "f") ≡ Some (Ino 2)
    → f.target 0 2 ≡ None
    → f.covering (Mem 0 2) ≡ None
    → (from : Walked Seen) → find f leaf.Follow from (codes "/f") ≡ found.At (Mem 0 2)
f_file f root h1 h2 h3 from =
    simp (root.bare, root.kind, root.dir, h1, h2, h3, steps_are) refl

-- a link `/z`
pub z_link : (f : Facts)
    → HasRoot f
    → f.entry 0 1 (codes "z") ≡ Some (Ino 2)
    → f.covering (Mem 0 2) ≡ None
    → (from : Walked Seen) → find f leaf.NoFollow from (codes "/z") ≡ found.At (Mem 0 2)
z_link f root h1 h2 from =
    simp (root.bare, root.kind, root.dir, h1, h2, steps_are) refl

-- a link `/z` to itself: 32 times it is followed
pub z_loop : (f : Facts)
    → HasRoot f
    → f.entry 0 1 (codes "z") ≡ Some (Ino 2)
    → f.target 0 2 ≡ Some (codes "/z")
    → (from : Walked Seen) → find f leaf.Follow from (codes "/z") ≡ found.Refused errno.ELOOP
z_loop f root h1 h2 from =
    simp (root.bare, root.kind, root.dir, h1, h2, steps_are) refl

-- a missing name `/g`
pub g_missing : (f : Facts)
    → HasRoot f
    → f.entry 0 1 (codes "g") ≡ None
    → (from : Walked Seen) → find f leaf.Parent from (codes "/g") ≡ found.In (Mem 0 1) (codes "g") None
g_missing f root h1 from =
    simp (root.bare, root.kind, root.dir, h1, steps_are) refl

-- a directory `/a` on which a file system is mounted
pub a_mounted : (f : Facts)
    → HasRoot f
    → f.entry 0 1 (codes "a") ≡ Some (Ino 2)
    → f.target 0 2 ≡ None
    → f.covering (Mem 0 2) ≡ Some 1
    → f.mount 1 ≡ Some (mount_on 1 kind.Mem (Mem 0 2))
    → f.covering (Mem 1 1) ≡ None
    → (from : Walked Seen) → find f leaf.Follow from (codes "/a") ≡ found.At (Mem 1 1)
a_mounted f root h1 h2 h3 h4 h5 from =
    simp (root.bare, root.kind, root.dir, h1, h2, h3, h4, h5, steps_are) refl

-- its mount
pub a_mount : (f : Facts)
    → HasRoot f
    → f.entry 0 1 (codes "a") ≡ Some (Ino 2)
    → f.target 0 2 ≡ None
    → f.covering (Mem 0 2) ≡ Some 1
    → f.mount 1 ≡ Some (mount_on 1 kind.Mem (Mem 0 2))
    → f.covering (Mem 1 1) ≡ None
    → (from : Walked Seen) → find f leaf.Mount from (codes "/a") ≡ found.Mount 1
a_mount f root h1 h2 h3 h4 h5 from =
    simp (root.bare, root.kind, root.dir, h1, h2, h3, h4, h5, steps_are) refl

-- the root mount
pub root_mount_found : (f : Facts)
    → f.covering (Mem 0 1) ≡ None
    → f.mount 0 ≡ Some root_mount
    → (from : Walked Seen) → find f leaf.Mount from (codes "/") ≡ found.Mount 0
root_mount_found f h1 h2 from =
    simp (h1, h2, steps_are) refl

-- a directory `/b`
pub b_dir : (f : Facts)
    → HasRoot f
    → f.entry 0 1 (codes "b") ≡ Some (Ino 3)
    → f.target 0 3 ≡ None
    → f.covering (Mem 0 3) ≡ None
    → (from : Walked Seen) → find f leaf.Follow from (codes "/b") ≡ found.At (Mem 0 3)
b_dir f root h1 h2 h3 from =
    simp (root.bare, root.kind, root.dir, h1, h2, h3, steps_are) refl

-- a null layer on `/b`
pub b_mount : (f : Facts)
    → HasRoot f
    → f.entry 0 1 (codes "b") ≡ Some (Ino 3)
    → f.target 0 3 ≡ None
    → f.covering (Mem 0 3) ≡ Some 2
    → f.mount 2 ≡ Some (mount_on 2 (kind.Null (Mem 1 1)) (Mem 0 3))
    → f.covering (Null 2 (Mem 1 1)) ≡ None
    → (from : Walked Seen) → find f leaf.Mount from (codes "/b") ≡ found.Mount 2
b_mount f root h1 h2 h3 h4 h5 from =
    simp (root.bare, root.kind, root.dir, h1, h2, h3, h4, h5, steps_are) refl

-- a null layer on `/b` that is cut
pub b_cut : (f : Facts)
    → HasRoot f
    → f.entry 0 1 (codes "b") ≡ Some (Ino 3)
    → f.target 0 3 ≡ None
    → f.covering (Mem 0 3) ≡ Some 2
    → f.mount 2 ≡ Some (cut_mount 2 (kind.Null (Mem 1 1)) (Mem 0 3))
    → (from : Walked Seen) → find f leaf.Follow from (codes "/b") ≡ found.Refused errno.EIO
b_cut f root h1 h2 h3 h4 from =
    simp (root.bare, root.kind, root.dir, h1, h2, h3, h4, steps_are) refl

-- a directory `/u` on which a file system is mounted
pub u_mounted : (f : Facts)
    → HasRoot f
    → f.entry 0 1 (codes "u") ≡ Some (Ino 3)
    → f.target 0 3 ≡ None
    → f.covering (Mem 0 3) ≡ Some 1
    → f.mount 1 ≡ Some (mount_on 1 kind.Mem (Mem 0 3))
    → f.covering (Mem 1 1) ≡ None
    → (from : Walked Seen) → find f leaf.Follow from (codes "/u") ≡ found.At (Mem 1 1)
u_mounted f root h1 h2 h3 h4 h5 from =
    simp (root.bare, root.kind, root.dir, h1, h2, h3, h4, h5, steps_are) refl

-- a directory `/l`
pub l_dir : (f : Facts)
    → HasRoot f
    → f.entry 0 1 (codes "l") ≡ Some (Ino 2)
    → f.target 0 2 ≡ None
    → f.covering (Mem 0 2) ≡ None
    → (from : Walked Seen) → find f leaf.Follow from (codes "/l") ≡ found.At (Mem 0 2)
l_dir f root h1 h2 h3 from =
    simp (root.bare, root.kind, root.dir, h1, h2, h3, steps_are) refl

-- a file of the lower layer
pub f_low : (f : Facts)
    → HasUnion f
    → f.entry 1 1 (codes "f") ≡ None
    → f.entry 0 2 (codes "f") ≡ Some (Ino 5)
    → f.kind 0 5 ≡ Some node_kind.File
    → f.target 0 5 ≡ None
    → f.covering (UnionLow 2 1 (codes "f") (Mem 0 5)) ≡ None
    → (from : Walked Seen) → find f leaf.Follow from (codes "/l/f") ≡ found.At (UnionLow 2 1 (codes "f") (Mem 0 5))
f_low f union h1 h2 h3 h4 h5 from =
    simp (union.root.bare, union.root.kind, union.root.dir, union.entry, union.target, union.covered, union.mount, union.bare, union.is_dir, union.dir, h1, h2, h3, h4, h5, steps_are) refl

-- the same as the last name of a path
pub f_low_named : (f : Facts)
    → HasUnion f
    → f.entry 1 1 (codes "f") ≡ None
    → f.entry 0 2 (codes "f") ≡ Some (Ino 5)
    → f.kind 0 5 ≡ Some node_kind.File
    → (from : Walked Seen) → find f leaf.Parent from (codes "/l/f") ≡ found.In (UnionUp 2 1) (codes "f") (Some (UnionLow 2 1 (codes "f") (Mem 0 5)))
f_low_named f union h1 h2 h3 from =
    simp (union.root.bare, union.root.kind, union.root.dir, union.entry, union.target, union.covered, union.mount, union.bare, union.is_dir, union.dir, h1, h2, h3, steps_are) refl

-- a name at which a whiteout stands
pub f_hidden : (f : Facts)
    → HasUnion f
    → f.entry 1 1 (codes "f") ≡ Some White
    → (from : Walked Seen) → find f leaf.Follow from (codes "/l/f") ≡ found.Refused errno.ENOENT
f_hidden f union h1 from =
    simp (union.root.bare, union.root.kind, union.root.dir, union.entry, union.target, union.covered, union.mount, union.bare, union.is_dir, union.dir, h1, steps_are) refl

-- the same as the last name of a path
pub f_hidden_named : (f : Facts)
    → HasUnion f
    → f.entry 1 1 (codes "f") ≡ Some White
    → (from : Walked Seen) → find f leaf.Parent from (codes "/l/f") ≡ found.In (UnionUp 2 1) (codes "f") None
f_hidden_named f union h1 from =
    simp (union.root.bare, union.root.kind, union.root.dir, union.entry, union.target, union.covered, union.mount, union.bare, union.is_dir, union.dir, h1, steps_are) refl

-- a file of the upper layer
pub f_up : (f : Facts)
    → HasUnion f
    → f.entry 1 1 (codes "f") ≡ Some (Ino 2)
    → target_of f (UnionUp 2 2) ≡ None
    → f.covering (UnionUp 2 2) ≡ None
    → (from : Walked Seen) → find f leaf.Follow from (codes "/l/f") ≡ found.At (UnionUp 2 2)
f_up f union h1 h2 h3 from =
    simp (union.root.bare, union.root.kind, union.root.dir, union.entry, union.target, union.covered, union.mount, union.bare, union.is_dir, union.dir, h1, h2, h3, steps_are) refl

-- a directory of the lower layer
pub d_low : (f : Facts)
    → HasUnion f
    → f.entry 1 1 (codes "d") ≡ None
    → f.entry 0 2 (codes "d") ≡ Some (Ino 4)
    → f.kind 0 4 ≡ Some node_kind.Dir
    → (from : Walked Seen) → find f leaf.Follow from (codes "/l/d") ≡ found.Need (record { mount = 2; dir = 1; name = codes "d" })
d_low f union h1 h2 h3 from =
    simp (union.root.bare, union.root.kind, union.root.dir, union.entry, union.target, union.covered, union.mount, union.bare, union.is_dir, union.dir, h1, h2, h3, steps_are) refl

-- a directory of the upper layer
pub d_up : (f : Facts)
    → HasUnion f
    → f.entry 1 1 (codes "d") ≡ Some (Ino 2)
    → target_of f (UnionUp 2 2) ≡ None
    → f.covering (UnionUp 2 2) ≡ None
    → (from : Walked Seen) → find f leaf.Follow from (codes "/l/d") ≡ found.At (UnionUp 2 2)
d_up f union h1 h2 h3 from =
    simp (union.root.bare, union.root.kind, union.root.dir, union.entry, union.target, union.covered, union.mount, union.bare, union.is_dir, union.dir, h1, h2, h3, steps_are) refl

-- the same as the last name of a path
pub d_up_named : (f : Facts)
    → HasUnion f
    → f.entry 1 1 (codes "d") ≡ Some (Ino 2)
    → (from : Walked Seen) → find f leaf.Parent from (codes "/l/d") ≡ found.In (UnionUp 2 1) (codes "d") (Some (UnionUp 2 2))
d_up_named f union h1 from =
    simp (union.root.bare, union.root.kind, union.root.dir, union.entry, union.target, union.covered, union.mount, union.bare, union.is_dir, union.dir, h1, steps_are) refl

-- the name of a directory at which a whiteout stands
pub d_hidden_named : (f : Facts)
    → HasUnion f
    → f.entry 1 1 (codes "d") ≡ Some White
    → (from : Walked Seen) → find f leaf.Parent from (codes "/l/d") ≡ found.In (UnionUp 2 1) (codes "d") None
d_hidden_named f union h1 from =
    simp (union.root.bare, union.root.kind, union.root.dir, union.entry, union.target, union.covered, union.mount, union.bare, union.is_dir, union.dir, h1, steps_are) refl

-- a file of the lower layer in a shadow directory
pub x_low : (f : Facts)
    → HasUnion f
    → f.entry 1 1 (codes "d") ≡ Some (Ino 2)
    → target_of f (UnionUp 2 2) ≡ None
    → f.covering (UnionUp 2 2) ≡ None
    → is_dir f (UnionUp 2 2) ≡ true
    → f.dir 1 2 ≡ Some (linked_dir 1 false)
    → f.entry 1 2 (codes "x") ≡ None
    → f.name_of 1 2 ≡ Some (codes "d")
    → f.entry 0 2 (codes "d") ≡ Some (Ino 4)
    → f.kind 0 4 ≡ Some node_kind.Dir
    → f.entry 0 4 (codes "x") ≡ Some (Ino 6)
    → f.kind 0 6 ≡ Some node_kind.File
    → f.target 0 6 ≡ None
    → f.covering (UnionLow 2 2 (codes "x") (Mem 0 6)) ≡ None
    → (from : Walked Seen) → find f leaf.Follow from (codes "/l/d/x") ≡ found.At (UnionLow 2 2 (codes "x") (Mem 0 6))
x_low f union h1 h2 h3 h4 h5 h6 h7 h8 h9 h10 h11 h12 h13 from =
    simp (union.root.bare, union.root.kind, union.root.dir, union.entry, union.target, union.covered, union.mount, union.bare, union.is_dir, union.dir, h1, h2, h3, h4, h5, h6, h7, h8, h9, h10, h11, h12, h13, steps_are) refl

-- the same as the last name of a path
pub x_low_named : (f : Facts)
    → HasUnion f
    → f.entry 1 1 (codes "d") ≡ Some (Ino 2)
    → target_of f (UnionUp 2 2) ≡ None
    → f.covering (UnionUp 2 2) ≡ None
    → is_dir f (UnionUp 2 2) ≡ true
    → f.dir 1 2 ≡ Some (linked_dir 1 false)
    → f.entry 1 2 (codes "x") ≡ None
    → f.name_of 1 2 ≡ Some (codes "d")
    → f.entry 0 2 (codes "d") ≡ Some (Ino 4)
    → f.kind 0 4 ≡ Some node_kind.Dir
    → f.entry 0 4 (codes "x") ≡ Some (Ino 6)
    → f.kind 0 6 ≡ Some node_kind.File
    → (from : Walked Seen) → find f leaf.Parent from (codes "/l/d/x") ≡ found.In (UnionUp 2 2) (codes "x") (Some (UnionLow 2 2 (codes "x") (Mem 0 6)))
x_low_named f union h1 h2 h3 h4 h5 h6 h7 h8 h9 h10 h11 from =
    simp (union.root.bare, union.root.kind, union.root.dir, union.entry, union.target, union.covered, union.mount, union.bare, union.is_dir, union.dir, h1, h2, h3, h4, h5, h6, h7, h8, h9, h10, h11, steps_are) refl

-- a name of the lower layer in an opaque directory
pub x_hidden : (f : Facts)
    → HasUnion f
    → f.entry 1 1 (codes "d") ≡ Some (Ino 3)
    → target_of f (UnionUp 2 3) ≡ None
    → f.covering (UnionUp 2 3) ≡ None
    → is_dir f (UnionUp 2 3) ≡ true
    → f.dir 1 3 ≡ Some (linked_dir 1 true)
    → f.entry 1 3 (codes "x") ≡ None
    → (from : Walked Seen) → find f leaf.Follow from (codes "/l/d/x") ≡ found.Refused errno.ENOENT
x_hidden f union h1 h2 h3 h4 h5 h6 from =
    simp (union.root.bare, union.root.kind, union.root.dir, union.entry, union.target, union.covered, union.mount, union.bare, union.is_dir, union.dir, h1, h2, h3, h4, h5, h6, steps_are) refl
