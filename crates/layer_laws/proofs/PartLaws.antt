-- Where the lower part of a union's directory lies: at a place that walks may come by, in a mount with a smaller number.
use Rattle.std.proofs.Common.{◌≡◌, ℕ, ◌<◌, false, arith}
use Rattle.std.specs.Prelude.{Some}
use Rattle.vfs_tree.specs.Child.{low_by, child_within}
use Rattle.vfs_tree.specs.Facts.{Facts}
use Rattle.vfs_tree.specs.Layers.{kind_in, is_cut}
use Rattle.vfs_tree.specs.Place.{Seen, mount_of}
use Rattle.vfs_tree.specs.declared.mount.MountKind.TheVariants as kind
use Rattle.vfs_tree.specs.declared.walk.Child.{Child}
use Rattle.vfs_tree.specs.declared.walk.Child.TheVariants as child
use Rattle.call_laws.proofs.ChildInduction.{ChildComes, Lies, in-low_union, in-within}
use Rattle.call_laws.proofs.FoundLaws.{IsGood, UncutNeed, IsGoodView, good_layers, good_keeps}
use Rattle.layer_laws.proofs.LowerLaws.{Stands}
use Rattle.layer_laws.proofs.NestLaws.{Nests, over_nests, lower_nests}

abbrev pub Lower : Facts → ℕ → Seen → Type 0
Lower f m p = IsGood f p × (mount_of p < m)

module _ (f : Facts) (view : IsGoodView f) where
  pub good_nests : (p : Seen) → IsGood f p → Nests f p
  good_nests p g = over_nests f view p g.uncut g.over

  pub lower_part : (k m s top : ℕ) (lower : Seen) → kind_in f m ≡ Some (kind.Union s top lower) → is_cut f m ≡ false → (u : ℕ) → Stands (Lower f m) (low_by f (child_within k f) u (Some (kind.Union s top lower)))
  lower_part k m s top lower is cut u =
      by (low_by f (child_within k f) u (Some (kind.Union s top lower)))
      (in-low_union f (UncutNeed f) (IsGood f) (good_keeps f view) (child_within k f) (in-within f (UncutNeed f) (IsGood f) (good_keeps f view) k) s lower (good_layers f view m (kind.Union s top lower) is cut).1 u top)
    where
      by : (c : Child) → ChildComes (UncutNeed f) (Lies (IsGood f) (mount_of lower)) c → Stands (Lower f m) c
      by (child.At q) h = let less : mount_of lower < m = (lower_nests f view m s top lower is cut).1 in let same : mount_of q ≡ mount_of lower = h.1 in (h.0, omega (arith, less, same))
      by child.Absent h = tt
      by (child.Need x) h = tt
