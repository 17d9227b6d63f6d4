-- What callers come by is falling.
use Rattle.std.proofs.Common.{◌≡◌, ℕ, true, false, List, subst}
use Rattle.std.specs.Prelude.{Option, IfSome}
use Rattle.std.specs.FinMap.{get}
use Rattle.vfs_tree.specs.Layers.{is_dir}
use Rattle.vfs_tree.specs.Place.{Seen}
use Rattle.vfs_tree.specs.Sound.{IsSound}
use Rattle.vfs_tree.specs.Views.{facts_of}
use Rattle.vfs_tree.specs.declared.walk.Found.TheVariants as found
use Rattle.vfs_tree.specs.declared.world.World.{World}
use Rattle.call_model.specs.Rows.{Way, found_at}
use Rattle.call_laws.specs.Lasting.{IsOver, IsLasting}
use Rattle.call_laws.proofs.PlaceLaws.{well_at}
use Rattle.call_laws.proofs.SoundParts.{if_each}
use Rattle.call_laws.proofs.WalkLaws.{FoundWell}
use Rattle.fuel_laws.specs.Layered.{IsFalling}
use Rattle.fuel_laws.proofs.LookLaws.{over_falls}

pub over_falling : (w : World) → IsSound w → (p : Seen) → IsOver (facts_of w) p → IsFalling p
over_falling w sound p h = over_falls (facts_of w) sound.view.smaller p h

module _ (w : World) (sound : IsSound w) (lasts : IsLasting w) where
  pub path_falling : (c : ℕ) (o : Option Way) (p : Seen) → found_at w c o ≡ found.At p → IsFalling p
  path_falling c o p is =
      let end : FoundWell (facts_of w) (found.At p) = subst (FoundWell (facts_of w)) is (well_at w sound lasts c o) in over_falling w sound p end.good.over

  pub dir_falling : (c : ℕ) (o : Option Way) (d : Seen) (n : List ℕ) (x : Option Seen) → found_at w c o ≡ found.In d n x → IsFalling d
  dir_falling c o d n x is =
      let t : FoundWell (facts_of w) (found.In d n x) = subst (FoundWell (facts_of w)) is (well_at w sound lasts c o) in over_falling w sound d t.good.over

  pub opens_falling : (k : ℕ × ℕ) → IfSome (get w.opens k) (λ o. o.dead ≡ false → IsFalling o.place)
  opens_falling k =
      if_each (λ o. o.dead ≡ false → IsOver (facts_of w) o.place) (λ o. o.dead ≡ false → IsFalling o.place) (λ o h alive. over_falling w sound o.place (h alive)) (get w.opens k) (lasts.opens k)

  pub cwds_falling : (c : ℕ) → IfSome (get w.cwds c) (λ d. d.dead ≡ false → IsFalling d.place)
  cwds_falling c =
      if_each (λ d. d.dead ≡ false → IsOver (facts_of w) d.place × (is_dir (facts_of w) d.place ≡ true)) (λ d. d.dead ≡ false → IsFalling d.place) (λ d h alive. over_falling w sound d.place (h alive).0) (get w.cwds c) (lasts.cwds c)
