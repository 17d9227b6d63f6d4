-- Callers may come by an open directory in the world in which its mount isn't cut.
use Rattle.std.proofs.Common.{◌≡◌, ◌==◌, false, refl, subst, eq-eqb}
use Rattle.std.specs.Prelude.{Option, IfSome}
use Rattle.std.specs.FinMap.{get}
use Rattle.vfs_tree.specs.Facts.{Facts}
use Rattle.vfs_tree.specs.Mounts.{stands_on}
use Rattle.vfs_tree.specs.Place.{mount_of}
use Rattle.vfs_tree.specs.Sound.{IsSoundPlace, IsSoundDir}
use Rattle.vfs_tree.specs.Views.{facts_of}
use Rattle.vfs_tree.specs.declared.open.Open.{Open}
use Rattle.vfs_tree.specs.declared.world.World.{World}
use Rattle.call_laws.specs.Lasting.{IsOver, IsUncut}
use Rattle.call_laws.proofs.SoundParts.{stays_place, or_first}
use Rattle.call_laws.proofs.Whole.{IsWhole}
use Rattle.call_laws.proofs.WholeLaws.{over_stays, dir_stays}
use Rattle.open_laws.specs.OpenDirs.{IsOpenDir}
use Rattle.open_laws.specs.Standing.{IsStanding, AreStanding}
use Rattle.open_laws.proofs.FreedLaws.{v, stays, place_freed}

-- what holds of everything open that isn't dead
of_open : (P : Open → Type 0) (w : World) (o : Open) (x : IsOpenDir w o) → IfSome (get w.opens x.key) (λ o. o.dead ≡ false → P o) → P o
of_open P w o x h = subst (λ (y : Option Open). IfSome y (λ o. o.dead ≡ false → P o)) x.at h x.alive

-- its mount stands
pub open_stands : (w : World) (o : Open) → AreStanding w → IsOpenDir w o → IsStanding w (mount_of o.place)
open_stands w o stands x = of_open (λ o. IsStanding w (mount_of o.place)) w o x (stands x.key)

module _ (w : World) (h : IsWhole w) (o : Open) (x : IsOpenDir w o) (stands : IsStanding w (mount_of o.place)) where
  abbrev f : Facts
  f = facts_of w

  abbrev g : Facts
  g = facts_of (v w h (mount_of o.place) stands)

  sound_there : IsSoundPlace f o.place
  sound_there = of_open (λ o. IsSoundPlace f o.place) w o x (h.sound.opens x.key)

  over_there : IsOver f o.place
  over_there = of_open (λ o. IsOver f o.place) w o x (h.lasts.opens x.key)

  pub open_dir : IsSoundDir g o.place
  open_dir = record {
    place = stays_place f g (stays w h (mount_of o.place) stands) o.place sound_there;
    dir = dir_stays f g (stays w h (mount_of o.place) stands) o.place sound_there x.dir;
  }

  pub open_uncut : IsUncut g o.place
  open_uncut = let a = mount_of o.place in place_freed w h a stands o.place over_there (or_first (a == a) (stands_on w.mounts a a) (eq-eqb a a refl))

  pub open_over : IsOver g o.place
  open_over = over_stays f g (stays w h (mount_of o.place) stands).kinds o.place over_there
