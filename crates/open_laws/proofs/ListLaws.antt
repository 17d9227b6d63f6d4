-- An open directory lists the names at which it shows something, also where its mount is cut.
use Rattle.std.proofs.Common.{◌≡◌, ℕ, List, [], ◌∷◌, ◌∙◌, subst}
use Rattle.std.specs.Prelude.{◌↔◌, Option, IsSome}
use Rattle.std.specs.List.{Contains}
use Rattle.std.specs.FinMap.{empty}
use Rattle.vfs_tree.specs.Place.{Seen, mount_of}
use Rattle.vfs_tree.specs.Shown.{Shown, shown, shown_child}
use Rattle.vfs_tree.specs.Sound.{IsSound}
use Rattle.vfs_tree.specs.Start.{start_world}
use Rattle.vfs_tree.specs.Views.{facts_of}
use Rattle.vfs_tree.specs.Visible.{visible}
use Rattle.vfs_tree.specs.declared.limits.Limits.{Limits}
use Rattle.vfs_tree.specs.declared.open.Open.{Open}
use Rattle.vfs_tree.specs.declared.walk.Child.{Child}
use Rattle.vfs_tree.specs.declared.walk.Child.TheVariants as child
use Rattle.vfs_tree.specs.declared.walk.Step.TheVariants.{Go}
use Rattle.vfs_tree.specs.declared.world.World.{World}
use Rattle.call_model.specs.Effects.{each}
use Rattle.call_model.specs.Legal.{Pending, IsLegal, replay}
use Rattle.call_model.specs.declared.entry.Entry.{Entry}
use Rattle.call_laws.specs.Lasting.{IsLasting}
use Rattle.call_laws.proofs.Whole.{IsWhole}
use Rattle.call_laws.proofs.WorldLaws.{sound_from_start, lasting_from_start}
use Rattle.layer_laws.proofs.VisibleLaws.{visible_shown, visible_tree}
use Rattle.open_laws.specs.OpenDirs.{IsOpenDir}
use Rattle.open_laws.specs.Standing.{IsStanding, AreStanding}
use Rattle.open_laws.proofs.FreedLaws.{freed, v, same_kinds, freed_whole}
use Rattle.open_laws.proofs.HistoryLaws.{standing_from_start}
use Rattle.open_laws.proofs.OpenLaws.{open_stands, open_dir, open_uncut, open_over}
use Rattle.open_laws.proofs.SameLaws.{same_child, same_tree, same_visible}

module _ (w : World) (o : Open) (names : List (List ℕ)) (n : List ℕ) (sound : IsSound w) (lasts : IsLasting w) (stand : AreStanding w) (x : IsOpenDir w o) (e : visible w o.place ≡ Go names) where
  h : IsWhole w
  h = record { sound = sound; lasts = lasts }

  stands : IsStanding w (mount_of o.place)
  stands = open_stands w o stand x

  -- the world in which the directory's mount isn't cut
  abbrev new : World
  new = v w h (mount_of o.place) stands

  whole : IsWhole new
  whole = freed_whole w h (mount_of o.place) stands

  listed : visible new o.place ≡ Go names
  listed = same_visible w (each (freed w h (mount_of o.place) stands) w.mounts) empty (same_kinds w h (mount_of o.place) stands) o.place ∙ e

  pub lists_places : Contains names n ↔ ((p : Seen) × (shown_child (facts_of w) o.place n ≡ child.At p))
  lists_places =
      subst (λ (c : Child). Contains names n ↔ ((p : Seen) × (c ≡ child.At p)))
      (same_child w (each (freed w h (mount_of o.place) stands) w.mounts) empty (same_kinds w h (mount_of o.place) stands) o.place n)
      (visible_shown new o.place names n whole.sound whole.lasts (open_dir w h o x stands) (open_uncut w h o x stands) (open_over w h o x stands) listed)

  pub lists_tree : Contains names n ↔ IsSome (shown w o.place (n ∷ []))
  lists_tree =
      subst (λ (s : Option Shown). Contains names n ↔ IsSome s)
      (same_tree w (each (freed w h (mount_of o.place) stands) w.mounts) empty (same_kinds w h (mount_of o.place) stands) o.place (n ∷ []))
      (visible_tree new o.place names n whole.sound whole.lasts (open_dir w h o x stands) (open_uncut w h o x stands) (open_over w h o x stands) listed)

module _ (limits : Limits) (p : Pending) (es : List Entry) (o : Open) (names : List (List ℕ)) (n : List ℕ) where
  abbrev w : World
  w = replay (start_world limits) es

  pub history_places : IsLegal p (start_world limits) es → IsOpenDir w o → visible w o.place ≡ Go names → Contains names n ↔ ((q : Seen) × (shown_child (facts_of w) o.place n ≡ child.At q))
  history_places legal = lists_places w o names n (sound_from_start limits p es legal) (lasting_from_start limits p es legal) (standing_from_start limits p es legal)

  pub history_tree : IsLegal p (start_world limits) es → IsOpenDir w o → visible w o.place ≡ Go names → Contains names n ↔ IsSome (shown w o.place (n ∷ []))
  history_tree legal = lists_tree w o names n (sound_from_start limits p es legal) (lasting_from_start limits p es legal) (standing_from_start limits p es legal)
