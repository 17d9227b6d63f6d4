-- A null mount shows its layer.
use Rattle.std.proofs.Common.{◌≡◌, ℕ, suc, Bool, false, not, List, [], ◌∷◌, refl, ap, sym, ◌∙◌, eq-eqb}
use Rattle.std.specs.Prelude.{Option, Some, None, option_map}
use Rattle.vfs_tree.specs.Child.{child_null}
use Rattle.vfs_tree.specs.Facts.{Facts}
use Rattle.vfs_tree.specs.Layers.{kind_in, root_by, root_of, is_cut, is_dir, base}
use Rattle.vfs_tree.specs.Place.{Seen, Null, mount_of}
use Rattle.vfs_tree.specs.Shown.{shown_child, shown_along, shown_at, shown}
use Rattle.vfs_tree.specs.Sound.{IsSound}
use Rattle.vfs_tree.specs.Steps.{◌>>◌, refuse_if}
use Rattle.vfs_tree.specs.StoreEdits.{set_entry}
use Rattle.vfs_tree.specs.Views.{facts_of}
use Rattle.vfs_tree.specs.declared.errno.Errno.TheVariants as errno
use Rattle.vfs_tree.specs.declared.mount.MountKind.{MountKind}
use Rattle.vfs_tree.specs.declared.mount.MountKind.TheVariants as kind
use Rattle.vfs_tree.specs.declared.node.NameEntry.TheVariants.{Ino}
use Rattle.vfs_tree.specs.declared.walk.Child.{Child}
use Rattle.vfs_tree.specs.declared.walk.Child.TheVariants as child
use Rattle.vfs_tree.specs.declared.walk.Found.TheVariants as found
use Rattle.vfs_tree.specs.declared.walk.Step.TheVariants.{Go}
use Rattle.vfs_tree.specs.declared.world.World.{World}
use Rattle.call_model.specs.Checks.{copied, edit_at}
use Rattle.call_model.specs.NameRows.{mkdir, link, undelete}
use Rattle.call_model.specs.declared.reply.Reply.TheVariants as reply
use Rattle.call_laws.specs.Lasting.{IsOver, IsUncut, IsLasting}
use Rattle.call_laws.proofs.FoundLaws.{IsGoodView}
use Rattle.call_laws.proofs.PlaceLaws.{good_view}
use Rattle.layer_laws.proofs.LowerLaws.{Stands, stands_more}
use Rattle.layer_laws.proofs.NestLaws.{Nests, Within, Under, under_more, over_nests, layer_nests, shown_from, shown_nests}

module _ (w : World) (view : IsGoodView (facts_of w)) (m : ℕ) where
  abbrev f : Facts
  f = facts_of w

  along_null : (ns : List (List ℕ)) (c : Child) → Stands (Under f m) c → shown_at w (shown_along f (child_null m c) ns) ≡ shown_at w (shown_along f c ns)
  along_null [] (child.At q) h = refl
  along_null (n ∷ ns) (child.At q) h =
      let c = shown_child f q n in
      ap (λ (c : Child). shown_at w (shown_along f (child_null m c) ns)) (shown_from f view m q n h.0 h.1)
      ∙ along_null ns c (stands_more (Within f (mount_of q)) (Under f m) (under_more f (mount_of q) m h.1) c (shown_nests f view (suc (mount_of q)) q n h.0))
  along_null ns child.Absent h = refl
  along_null ns (child.Need x) h = refl

-- what is shown at a place of a null mount
pub null_place : (w : World) (m : ℕ) (p : Seen) (ns : List (List ℕ)) → IsSound w → IsLasting w → IsUncut (facts_of w) (Null m p) → IsOver (facts_of w) (Null m p)
    → shown w (Null m p) ns ≡ shown w p ns
null_place w m p ns sound lasts cut over =
    let view = good_view w sound lasts in
    let h : Nests (facts_of w) (Null m p) = over_nests (facts_of w) view (Null m p) cut over in
    along_null w view m ns (child.At p) (h.1, h.0)

-- and at its root
pub null_root : (w : World) (m : ℕ) (layer : Seen) (ns : List (List ℕ)) → IsSound w → IsLasting w → kind_in (facts_of w) m ≡ Some (kind.Null layer) → is_cut (facts_of w) m ≡ false
    → shown w (root_of (facts_of w) m) ns ≡ shown w layer ns
null_root w m layer ns sound lasts is cut =
    let view = good_view w sound lasts in
    ap (λ (o : Option MountKind). shown w (root_by m o) ns) is ∙ along_null w view m ns (child.At layer) (layer_nests (facts_of w) view m layer is cut)

-- ---- calls on names in it

pub null_mkdir : (w : World) (m : ℕ) (d : Seen) (n : List ℕ) (child : Option Seen) → mkdir w (found.In (Null m d) n (option_map (Null m) child)) ≡ mkdir w (found.In d n child)
null_mkdir w m d n (Some p) = refl
null_mkdir w m d n None = refl

pub null_link : (w : World) (m : ℕ) (p d : Seen) (n : List ℕ) (child : Option Seen) → mount_of p ≡ mount_of d
    → link w (found.At (Null m p)) (found.In (Null m d) n (option_map (Null m) child)) ≡ link w (found.At p) (found.In d n child)
null_link w m p d n (Some q) same = refl
null_link w m p d n None same =
    ap (λ (b : Bool). refuse_if (is_dir (facts_of w) p) errno.EPERM >> (refuse_if (not b) errno.EXDEV >> (copied w p
    >> Go (edit_at w d (λ s dir. set_entry s dir n (Ino (base (facts_of w) p).ino)), reply.Done))))
    (eq-eqb m m refl ∙ sym (eq-eqb (mount_of p) (mount_of d) same))

pub null_undelete : (w : World) (m : ℕ) (d : Seen) (n : List ℕ) (child : Option Seen) → undelete w (found.In (Null m d) n (option_map (Null m) child)) ≡ undelete w (found.In d n child)
null_undelete w m d n child = refl
