-- Sound views and sound worlds: what holds of the names, the mounts and what is open.
use Rattle.std.specs.Prelude.{ℕ, zero, suc, ◌≡◌, ◌<◌, Bool, true, false, ◌&&◌, ◌==◌, List, Option, Some, None, IsSome, IfSome}
use Rattle.std.specs.FinMap.{get}
use Rattle.vfs_tree.specs.Place.{Seen, Mem, Null, UnionUp, UnionLow}
use Rattle.vfs_tree.specs.Facts.{Facts}
use Rattle.vfs_tree.specs.Layers.{kind_in, kind_of, is_dir, linked_by, parent_by}
use Rattle.vfs_tree.specs.Mounts.{Leaving, covers}
use Rattle.vfs_tree.specs.Views.{facts_of}
use Rattle.vfs_tree.specs.declared.mount.Mount.{Mount}
use Rattle.vfs_tree.specs.declared.mount.MountKind.{MountKind}
use Rattle.vfs_tree.specs.declared.mount.MountKind.TheVariants as kind
use Rattle.vfs_tree.specs.declared.node.Kind.{Kind}
use Rattle.vfs_tree.specs.declared.node.Kind.TheVariants as node
use Rattle.vfs_tree.specs.declared.node.NameEntry.{NameEntry}
use Rattle.vfs_tree.specs.declared.node.NameEntry.TheVariants.{Ino}
use Rattle.vfs_tree.specs.declared.view.DirFacts.{DirFacts}
use Rattle.vfs_tree.specs.declared.world.World.{World}

-- ---- names

-- so many steps up from a directory of a store
abbrev pub climb : ℕ → (ℕ → Option DirFacts) → ℕ → ℕ
climb zero dir i = i
climb (suc k) dir i = climb k dir (parent_by i (dir i))

-- its parents lead to the root of the store
pub record LeadsUp (dir : ℕ → Option DirFacts) (i : ℕ) : Type 0 where
  pub steps : ℕ
  pub root : climb steps dir i ≡ 1

-- the directories of a store, with what they have at their names and the name that their parent has for them
pub record AreSoundNames (entry : ℕ → List ℕ → Option NameEntry) (kind : ℕ → Option Kind) (dir : ℕ → Option DirFacts) (name_of : ℕ → Option (List ℕ)) : Type 0 where
  -- the parents of each linked directory lead to the root
  pub lead : (i : ℕ) → linked_by (dir i) ≡ true → LeadsUp dir i
  -- a directory that isn't linked has no names
  pub removed : (d : ℕ) (n : List ℕ) → linked_by (dir d) ≡ false → entry d n ≡ None
  -- each inode that a name gives has a node
  pub given : (d i : ℕ) (n : List ℕ) → entry d n ≡ Some (Ino i) → IsSome (kind i)
  -- a directory other than the root is given by at most one name, which stands in its parent
  pub once : (d i : ℕ) (n : List ℕ) → entry d n ≡ Some (Ino i) → kind i ≡ Some node.Dir → (i == 1) ≡ false
      → (d ≡ parent_by i (dir i)) × (name_of i ≡ Some n)

-- ---- places

abbrev pub is_mem : Option MountKind → Bool
is_mem (Some kind.Mem) = true
is_mem (Some (kind.Null layer)) = false
is_mem (Some (kind.Union s u lower)) = false
is_mem None = false

abbrev pub is_null : Option MountKind → Bool
is_null (Some (kind.Null layer)) = true
is_null (Some kind.Mem) = false
is_null (Some (kind.Union s u lower)) = false
is_null None = false

abbrev pub is_union : Option MountKind → Bool
is_union (Some (kind.Union s u lower)) = true
is_union (Some kind.Mem) = false
is_union (Some (kind.Null layer)) = false
is_union None = false

-- whether each variant of a place names a mount that is there and of its kind
abbrev pub names_mounts : Facts → Seen → Bool
names_mounts f (Mem m i) = is_mem (kind_in f m)
names_mounts f (Null m p) = is_null (kind_in f m) && names_mounts f p
names_mounts f (UnionUp m i) = is_union (kind_in f m)
names_mounts f (UnionLow m u n p) = is_union (kind_in f m) && names_mounts f p

-- what a union has in its lower layer alone is no directory there
abbrev pub AreFiles : Facts → Seen → Type 0
AreFiles f (Mem m i) = Unit {0}
AreFiles f (Null m p) = AreFiles f p
AreFiles f (UnionUp m i) = Unit {0}
AreFiles f (UnionLow m u n p) = (is_dir f p ≡ false) × AreFiles f p

-- a place of something open, of a covered directory, or of a layer
pub record IsSoundPlace (f : Facts) (p : Seen) : Type 0 where
  -- it names only mounts that are there, each by a variant of the mount's kind
  pub mounts : names_mounts f p ≡ true
  -- its base is there
  pub base : IsSome (kind_of f p)
  -- the lower place of a `UnionLow` is no directory
  pub files : AreFiles f p

-- such a place that is a directory
pub record IsSoundDir (f : Facts) (p : Seen) : Type 0 where
  pub place : IsSoundPlace f p
  pub dir : is_dir f p ≡ true

-- ---- mounts

-- each layer has the property; the upper layer of a union is a node of a memory file system
abbrev pub EachLayer : (Seen → Type 0) → MountKind → Type 0
EachLayer P kind.Mem = Unit {0}
EachLayer P (kind.Null layer) = P layer
EachLayer P (kind.Union s u lower) = P (Mem s u) × P lower

-- a mount's layers and the directory that it covers have the property
abbrev pub EachPlace : (Seen → Type 0) → Mount → Type 0
EachPlace P t = IfSome t.on P × EachLayer P t.kind

-- a place names only mounts with smaller numbers
abbrev pub IsBelow : ℕ → Seen → Type 0
IsBelow m (Mem n i) = n < m
IsBelow m (Null n p) = (n < m) × IsBelow m p
IsBelow m (UnionUp n i) = n < m
IsBelow m (UnionLow n u a p) = (n < m) × IsBelow m p

-- what a view shows of stores and mounts
pub record IsSoundView (f : Facts) : Type 0 where
  -- the names of each store are sound
  pub names : (s : ℕ) → AreSoundNames (f.entry s) (f.kind s) (f.dir s) (f.name_of s)
  -- the layers of a mount that isn't cut, and the directory that it covers, are directories at sound places
  pub places : (m : ℕ) → IfSome (f.mount m) (λ t. t.cut ≡ false → EachPlace (IsSoundDir f) t)
  -- mount 0 is there and is a memory mount
  pub root : kind_in f 0 ≡ Some kind.Mem
  -- a mount's layers and the directory that it covers name only mounts with smaller numbers
  pub smaller : (m : ℕ) → IfSome (f.mount m) (EachPlace (IsBelow m))

-- ---- worlds

abbrev pub covers_by : Leaving → Seen → Option Mount → Bool
covers_by leaving p (Some t) = covers leaving p t
covers_by leaving p None = false

-- whether the mount with a number is on a place, and nobody is leaving it
abbrev pub is_on_place : World → Seen → ℕ → Bool
is_on_place w p m = covers_by w.leaving p (get w.mounts m)

-- what holds of every world that calls leave
pub record IsSound (w : World) : Type 0 where
  -- the names and mounts that it shows are sound
  pub view : IsSoundView (facts_of w)
  -- so is the place of each open file or directory that isn't dead
  pub opens : (k : ℕ × ℕ) → IfSome (get w.opens k) (λ o. o.dead ≡ false → IsSoundPlace (facts_of w) o.place)
  -- and that of each current directory that isn't dead
  pub cwds : (c : ℕ) → IfSome (get w.cwds c) (λ d. d.dead ≡ false → IsSoundPlace (facts_of w) d.place)
  -- no two mounts that nobody is leaving are on the same place
  pub apart : (p : Seen) (m n : ℕ) → is_on_place w p m ≡ true → is_on_place w p n ≡ true → m ≡ n
