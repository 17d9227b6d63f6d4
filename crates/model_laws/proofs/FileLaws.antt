-- What rests on one node has the same bytes.
use Rattle.std.proofs.Common.{◌≡◌, ℕ, zero, suc, List, refl, ap, sym, ◌∙◌}
use Rattle.std.specs.Prelude.{Option, Some, None}
use Rattle.vfs_tree.specs.Child.{child_mem, child_null, child_union, child_within, child_of, child_below, low_by, upper_entry}
use Rattle.vfs_tree.specs.Facts.{Facts}
use Rattle.vfs_tree.specs.Layers.{base, kind_in, store_by}
use Rattle.vfs_tree.specs.Nodes.{node_at}
use Rattle.vfs_tree.specs.Place.{Seen, Mem, Null, UnionUp, UnionLow, mount_of}
use Rattle.vfs_tree.specs.Views.{facts_of}
use Rattle.vfs_tree.specs.declared.mount.MountKind.{MountKind}
use Rattle.vfs_tree.specs.declared.mount.MountKind.TheVariants as kind
use Rattle.vfs_tree.specs.declared.node.NameEntry.{NameEntry}
use Rattle.vfs_tree.specs.declared.node.NameEntry.TheVariants.{Ino}
use Rattle.vfs_tree.specs.declared.walk.Child.{Child}
use Rattle.vfs_tree.specs.declared.walk.Child.TheVariants as child
use Rattle.vfs_tree.specs.declared.walk.NodeId.{NodeId}
use Rattle.vfs_tree.specs.declared.world.World.{World}
use Rattle.call_model.specs.DataRows.{contents, bytes_of}
use Rattle.call_model.specs.NameEdits.{entry_of_dir}

pub same_bytes : (w : World) (p q : Seen) → base (facts_of w) p ≡ base (facts_of w) q → bytes_of w p ≡ bytes_of w q
same_bytes w p q is = ap (λ (b : NodeId). contents (node_at w b.store b.ino)) is

abbrev node_in : ℕ → ℕ → NodeId
node_in s i = record { store = s; ino = i }

-- the node of what stands there
abbrev its_node : Facts → Child → NodeId
its_node f (child.At p) = base f p
its_node f child.Absent = node_in 0 0
its_node f (child.Need x) = node_in 0 0

module _ (f : Facts) (n : List ℕ) (i : ℕ) where
  -- what a directory has at the name
  abbrev own : Seen → Option NameEntry
  own d = f.entry (base f d).store (base f d).ino n

  abbrev Rests : Seen → Child → Type 0
  Rests d x = (p : Seen) → x ≡ child.At p → base f p ≡ node_in (base f d).store i

  absent : (d : Seen) → Rests d child.Absent
  absent d p e = absurd (let clash : child.Absent ≡ child.At p = e in cc)

  through_null : (m : ℕ) (d : Seen) (x : Child) → Rests d x → Rests (Null m d) (child_null m x)
  through_null m d (child.At q) h p e = ap (its_node f) (sym e) ∙ h q refl
  through_null m d child.Absent h p e = absurd (let clash : child.Absent ≡ child.At p = e in cc)
  through_null m d (child.Need x) h p e = absurd (let clash : child.Need x ≡ child.At p = e in cc)

  in_upper : (k m u : ℕ) (o : Option MountKind) → kind_in f m ≡ o → f.entry (store_by o) u n ≡ Some (Ino i)
      → Rests (UnionUp m u) (child_union f m u n (upper_entry f o u n) (child_below (child_within k f) (low_by f (child_within k f) u o)))
  in_upper k m u (Some (kind.Union s upper lower)) is e p at =
      let below = child_below (child_within k f) (low_by f (child_within k f) u (Some (kind.Union s upper lower))) in
      let given : child_union f m u n (upper_entry f (Some (kind.Union s upper lower)) u n) below ≡ child.At (UnionUp m i) = ap (λ x. child_union f m u n x below) e in
      ap (its_node f) (sym at ∙ given)
  in_upper k m u (Some kind.Mem) is e p at = absurd (let clash : child.Absent ≡ child.At p = at in cc)
  in_upper k m u (Some (kind.Null layer)) is e p at = absurd (let clash : child.Absent ≡ child.At p = at in cc)
  in_upper k m u None is e p at = absurd (let clash : child.Absent ≡ child.At p = at in cc)

  in_mem : (m j : ℕ) → f.entry m j n ≡ Some (Ino i) → Rests (Mem m j) (child_mem m (f.entry m j n))
  in_mem m j e p at = ap (its_node f) (sym at ∙ ap (child_mem m) e)

  rests : (k : ℕ) (d : Seen) → own d ≡ Some (Ino i) → Rests d (child_within k f d n)
  rests zero d e = absent d
  rests (suc k) (Mem m j) e = in_mem m j e
  rests (suc k) (Null m q) e = through_null m q (child_within k f q n) (rests k q e)
  rests (suc k) (UnionUp m u) e = in_upper k m u (kind_in f m) refl e
  rests (suc k) (UnionLow m u a q) e = absent (UnionLow m u a q)

-- two names of a store that give one inode
pub same_names : (w : World) (d e p q : Seen) (a b : List ℕ) (i : ℕ) → (base (facts_of w) d).store ≡ (base (facts_of w) e).store → entry_of_dir w d a ≡ Some (Ino i) → entry_of_dir w e b ≡ Some (Ino i)
    → child_of (facts_of w) d a ≡ child.At p → child_of (facts_of w) e b ≡ child.At q → bytes_of w p ≡ bytes_of w q
same_names w d e p q a b i same x y at to =
    same_bytes w p q
    (rests (facts_of w) a i (suc (mount_of d)) d x p at
    ∙ ap (λ s. node_in s i) same
    ∙ sym (rests (facts_of w) b i (suc (mount_of e)) e y q to))
