-- What covers places, in what walks read of a world and of the edits of a history.
use Rattle.std.proofs.Common.{◌≡◌, ℕ, true, false, not, List, refl, ap, ◌∙◌, subst}
use Rattle.std.specs.Prelude.{Option, Some, None, IfSome, option_and_then}
use Rattle.std.specs.FinMap.{get}
use Rattle.vfs_tree.specs.Layers.{is_cut, cut_by, on_of}
use Rattle.vfs_tree.specs.Mounts.{is_left, is_on}
use Rattle.vfs_tree.specs.Place.{Seen}
use Rattle.vfs_tree.specs.Sound.{IsSound, IsSoundView, covers_by, is_on_place}
use Rattle.vfs_tree.specs.Start.{start_world}
use Rattle.vfs_tree.specs.Views.{facts_of}
use Rattle.vfs_tree.specs.declared.limits.Limits.{Limits}
use Rattle.vfs_tree.specs.declared.mount.Mount.{Mount}
use Rattle.vfs_tree.specs.declared.world.World.{World}
use Rattle.call_model.specs.Legal.{IsLegal, Pending, replay}
use Rattle.call_model.specs.NameEdits.{edited_by, edits}
use Rattle.call_model.specs.declared.entry.Entry.{Entry}
use Rattle.call_laws.specs.Lasting.{IsLasting}
use Rattle.call_laws.proofs.DetachLaws.{left_cut}
use Rattle.call_laws.proofs.NamedLaws.{no_way}
use Rattle.call_laws.proofs.SoundParts.{first_of, both_of}
use Rattle.call_laws.proofs.Whole.{IsWhole}
use Rattle.call_laws.proofs.WorldLaws.{sound_from_start, lasting_from_start}
use Rattle.edit_laws.proofs.CoverLaws.{covering_on, covering_is}
use Rattle.edit_laws.proofs.FoldLaws.{apart_whole}
use Rattle.edit_laws.proofs.HistoryTells.{start_tells}
use Rattle.shown_laws.specs.Covering.{IsCovered}

pub whole : (w : World) → IsSound w → IsLasting w → IsWhole w
whole w sound lasts = record { sound = sound; lasts = lasts }

pub what_covers : (w : World) (p : Seen) (m : ℕ) → IsSound w → IsLasting w → (facts_of w).covering p ≡ Some m → is_on_place w p m ≡ true
what_covers w p m sound lasts is = covering_on w (apart_whole w (whole w sound lasts)) p m is

pub what_is_on : (w : World) (p : Seen) (m : ℕ) → IsSound w → IsLasting w → is_on_place w p m ≡ true → (facts_of w).covering p ≡ Some m
what_is_on w p m sound lasts on = covering_is w (apart_whole w (whole w sound lasts)) p m on

module _ (w : World) (sound : IsSound w) (lasts : IsLasting w) (p : Seen) (m : ℕ) where
  on_by : (o : Option Mount) → covers_by w.leaving p o ≡ true → is_on (option_and_then (λ (t : Mount). t.on) o) p ≡ true
  on_by (Some t) e = first_of (is_on t.on p) (not (is_left w.leaving t.number)) e
  on_by None e = no_way e

  on_uncut : (o : Option Mount) → get w.mounts m ≡ o → IfSome o (λ t. t.number ≡ m) → is_on (option_and_then (λ (t : Mount). t.on) o) p ≡ true → cut_by o ≡ false → covers_by w.leaving p o ≡ true
  on_uncut (Some t) at number on cut =
      both_of (is_on t.on p) (not (is_left w.leaving t.number)) on
      (ap (λ n. not (is_left w.leaving n)) number ∙ ap not (left_cut w m t (whole w sound lasts) at cut))
  on_uncut None at number on cut = no_way on

  is_covered : is_on (on_of (facts_of w) m) p ≡ true → is_cut (facts_of w) m ≡ false → (facts_of w).covering p ≡ Some m
  is_covered on cut = what_is_on w p m sound lasts (on_uncut (get w.mounts m) refl (lasts.mounts m) on cut)

pub covered_view : (w : World) → IsSound w → IsLasting w → IsCovered (facts_of w)
covered_view w sound lasts = record {
  on = λ p m is. on_by w sound lasts p m (get w.mounts m) (what_covers w p m sound lasts is);
  covers = λ p m on cut. is_covered w sound lasts p m on cut;
}

pub covered_edits : (limits : Limits) (p : Pending) (es : List Entry) → IsLegal p (start_world limits) es → IsCovered (edited_by (facts_of (start_world limits)) (edits (start_world limits) es))
covered_edits limits p es legal =
    subst IsCovered (start_tells limits p es legal)
    (covered_view (replay (start_world limits) es) (sound_from_start limits p es legal) (lasting_from_start limits p es legal))

pub sound_edits : (limits : Limits) (p : Pending) (es : List Entry) → IsLegal p (start_world limits) es → IsSoundView (edited_by (facts_of (start_world limits)) (edits (start_world limits) es))
sound_edits limits p es legal =
    let sound : IsSound (replay (start_world limits) es) = sound_from_start limits p es legal in
    subst IsSoundView (start_tells limits p es legal) sound.view
