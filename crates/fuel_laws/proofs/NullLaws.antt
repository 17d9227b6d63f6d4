-- A null mount shows its layer, cut off or not.
use Rattle.std.proofs.Common.{◌≡◌, ℕ, suc, ◌<◌, List, [], ◌∷◌, refl, ap, ◌∙◌, subst, arith}
use Rattle.std.specs.Prelude.{Option, Some, IfSome}
use Rattle.vfs_tree.specs.Child.{child_null}
use Rattle.vfs_tree.specs.Facts.{Facts}
use Rattle.vfs_tree.specs.Layers.{kind_in, root_by, root_of}
use Rattle.vfs_tree.specs.Place.{Seen, Null, mount_of}
use Rattle.vfs_tree.specs.Shown.{shown_child, shown_along, shown_at, shown}
use Rattle.vfs_tree.specs.Sound.{EachLayer, IsSound}
use Rattle.vfs_tree.specs.Views.{facts_of}
use Rattle.vfs_tree.specs.declared.mount.MountKind.{MountKind}
use Rattle.vfs_tree.specs.declared.mount.MountKind.TheVariants as kind
use Rattle.vfs_tree.specs.declared.walk.Child.{Child}
use Rattle.vfs_tree.specs.declared.walk.Child.TheVariants as child
use Rattle.vfs_tree.specs.declared.world.World.{World}
use Rattle.call_laws.specs.Lasting.{lower_mount}
use Rattle.call_laws.proofs.DetachLaws.{lower_less}
use Rattle.fuel_laws.specs.Layered.{IsFalling, IsLayered}
use Rattle.fuel_laws.proofs.LookLaws.{FallsIn, falls_more, shown_falls, shown_null_whole}

module _ (w : World) (sound : IsSound w) (layered : IsLayered w) (m : ℕ) where
  abbrev f : Facts
  f = facts_of w

  along_null : (ns : List (List ℕ)) (c : Child) → FallsIn m c → shown_at w (shown_along f (child_null m c) ns) ≡ shown_at w (shown_along f c ns)
  along_null [] (child.At q) h = refl
  along_null (n ∷ ns) (child.At q) h =
      let c = shown_child f q n in
      let less : mount_of q < m = h.1 in
      ap (λ (c : Child). shown_at w (shown_along f c ns)) (shown_null_whole w sound layered m q n (less, h.0))
      ∙ along_null ns c (falls_more (suc (mount_of q)) m c (omega (arith, less)) (shown_falls w sound layered q n h.0))
  along_null ns child.Absent h = refl
  along_null ns (child.Need x) h = refl

  layer_falls : (layer : Seen) → kind_in f m ≡ Some (kind.Null layer) → FallsIn m (child.At layer)
  layer_falls layer is =
      let layers : EachLayer IsFalling (kind.Null layer) = subst (λ o. IfSome o (EachLayer IsFalling)) is (layered.falling m) in
      (layers, lower_less m (f.mount m) (mount_of layer) (sound.view.smaller m) (ap lower_mount is))

-- what is shown at the root of a null mount
pub null_root : (w : World) → IsSound w → IsLayered w → (m : ℕ) (layer : Seen) (ns : List (List ℕ)) → kind_in (facts_of w) m ≡ Some (kind.Null layer)
    → shown w (root_of (facts_of w) m) ns ≡ shown w layer ns
null_root w sound layered m layer ns is =
    ap (λ (o : Option MountKind). shown w (root_by m o) ns) is ∙ along_null w sound layered m ns (child.At layer) (layer_falls w sound layered m layer is)

-- and at a place in it
pub null_place : (w : World) → IsSound w → IsLayered w → (m : ℕ) (p : Seen) (ns : List (List ℕ)) → IsFalling (Null m p) → shown w (Null m p) ns ≡ shown w p ns
null_place w sound layered m p ns h = along_null w sound layered m ns (child.At p) (h.1, h.0)
