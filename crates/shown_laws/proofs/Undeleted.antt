-- What a name shows once its whiteout has been undeleted.
use Rattle.std.proofs.Common.{◌≡◌, ℕ, false, cond, not, List, ◌∷◌, refl, ap, sym, ◌∙◌, subst}
use Rattle.std.specs.Prelude.{Option, Some, None}
use Rattle.vfs_tree.specs.Carriers.{is_in_union}
use Rattle.vfs_tree.specs.Child.{child_below, upper_entry}
use Rattle.vfs_tree.specs.Facts.{Facts}
use Rattle.vfs_tree.specs.Layers.{base, kind_in, store_by}
use Rattle.vfs_tree.specs.Place.{Seen, Mem, Null, UnionUp, UnionLow, bare}
use Rattle.vfs_tree.specs.Shown.{shown, shown_child, shown_low, shown_union}
use Rattle.vfs_tree.specs.Sound.{IsSound}
use Rattle.vfs_tree.specs.StoreEdits.{clear_entry}
use Rattle.vfs_tree.specs.Views.{facts_of}
use Rattle.vfs_tree.specs.declared.errno.Errno.TheVariants as errno
use Rattle.vfs_tree.specs.declared.mount.MountKind.{MountKind}
use Rattle.vfs_tree.specs.declared.mount.MountKind.TheVariants as kind
use Rattle.vfs_tree.specs.declared.node.NameEntry.{NameEntry}
use Rattle.vfs_tree.specs.declared.walk.Child.{Child}
use Rattle.vfs_tree.specs.declared.walk.Found.{Found}
use Rattle.vfs_tree.specs.declared.walk.Found.TheVariants as found
use Rattle.vfs_tree.specs.declared.walk.Leaf.TheVariants as leaf
use Rattle.vfs_tree.specs.declared.walk.NodeId.{NodeId}
use Rattle.vfs_tree.specs.declared.world.World.{World}
use Rattle.call_model.specs.Apply.{Finished, apply}
use Rattle.call_model.specs.Checks.{target_at, edit_at, has_white}
use Rattle.call_model.specs.Legal.{after, world_after}
use Rattle.call_model.specs.NameEdits.{is_fail}
use Rattle.call_model.specs.NameRows as rows
use Rattle.call_model.specs.Rows.{found_at, way}
use Rattle.call_model.specs.declared.call.Call.{Call}
use Rattle.call_model.specs.declared.call.Call.TheVariants as call
use Rattle.call_model.specs.declared.entry.Entry.TheVariants as entry
use Rattle.call_model.specs.declared.reply.Reply.{Reply}
use Rattle.call_model.specs.declared.reply.Reply.TheVariants as reply
use Rattle.call_laws.specs.Lasting.{IsLasting}
use Rattle.call_laws.proofs.MountParts.{done_so}
use Rattle.call_laws.proofs.Parts.{Keeps, found_so, then, unless}
use Rattle.call_laws.proofs.PlaceLaws.{well_at}
use Rattle.call_laws.proofs.SoundRows.{LeavesSo, AnyNeed}
use Rattle.call_laws.proofs.WalkLaws.{IsTarget, FoundWell}
use Rattle.call_laws.proofs.WorldLaws.{sound_call, lasting_call}
use Rattle.fuel_laws.specs.Layered.{IsFalling, IsLayered}
use Rattle.fuel_laws.specs.ShownUnder.{shown_lower, shown_under}
use Rattle.fuel_laws.proofs.FallLaws.{over_falling}
use Rattle.fuel_laws.proofs.LayerLaws.{layered_call}
use Rattle.fuel_laws.proofs.LookLaws.{shown_union_whole}
use Rattle.fuel_laws.proofs.NullLaws.{null_place}
use Rattle.fuel_laws.proofs.UpLaws.{shown_below}
use Rattle.model_laws.proofs.Leaving.{done-so}
use Rattle.edit_laws.proofs.Answering.{found_in}
use Rattle.edit_laws.proofs.NameViews.{left}
use Rattle.shown_laws.proofs.HiddenNames.{Leaves, LeavesAt, kinds_same, hides, clear_leaves, target_in}

-- ---- the world that a call leaves

-- is the one after its entry
pub left_by : (w new : World) (c : ℕ) (x : Call) (r : Reply) → is_fail r ≡ false → apply w c x ≡ Finished new r → after w (entry.Call c x r) ≡ new
left_by w new c x r ok is = ap (λ b. cond b w (world_after w (apply w c x))) (done_so r ok) ∙ ap (world_after w) is

module _ (w new : World) (c : ℕ) (x : Call) (r : Reply) (ok : is_fail r ≡ false) (is : apply w c x ≡ Finished new r) (sound : IsSound w) (lasts : IsLasting w) where
  pub sound_left : IsSound new
  sound_left = subst IsSound (left_by w new c x r ok is) (sound_call w c x r sound lasts)

  pub lasting_left : IsLasting new
  lasting_left = subst IsLasting (left_by w new c x r ok is) (lasting_call w c x r sound lasts)

  pub layered_left : IsLayered w → IsLayered new
  layered_left layered = subst IsLayered (left_by w new c x r ok is) (layered_call w c x r sound lasts layered)

-- ---- a directory that is seen through null mounts

-- rests on the node of the one under them
pub base_bare : (f : Facts) (d : Seen) → base f (bare d) ≡ base f d
base_bare f (Mem m i) = refl
base_bare f (Null m p) = base_bare f p
base_bare f (UnionUp m i) = refl
base_bare f (UnionLow m u n p) = refl

-- and shows its tree
pub shown_bare : (w : World) → IsSound w → IsLayered w → (d : Seen) (ns : List (List ℕ)) → IsFalling d → shown w d ns ≡ shown w (bare d) ns
shown_bare w sound layered (Mem m i) ns h = refl
shown_bare w sound layered (Null m p) ns h = null_place w sound layered m p ns h ∙ shown_bare w sound layered p ns h.1
shown_bare w sound layered (UnionUp m i) ns h = refl
shown_bare w sound layered (UnionLow m u n p) ns h = refl

-- ---- undelete

undelete_clears : (w : World) (a : Found) → FoundWell (facts_of w) a → Keeps (LeavesSo (LeavesAt w (λ d. None) a)) AnyNeed (rows.undelete w a)
undelete_clears w a well =
    then (target_at w errno.EEXIST a) (found_in w errno.EEXIST a) (λ t is.
    unless (not (has_white w t.dir t.name)) _ (λ white.
    found_so (subst (λ a. LeavesAt w (λ d. None) a (edit_at w t.dir (λ s dir. clear_entry s dir t.name))) (sym is) (clear_leaves w t.dir t.name t.child (target_in w a t.dir t.name t.child well is)))))

upper_none : (f : Facts) (u : ℕ) (n : List ℕ) (o : Option MountKind) → f.entry (store_by o) u n ≡ None → upper_entry f o u n ≡ None
upper_none f u n (Some (kind.Union s top lower)) h = h
upper_none f u n (Some kind.Mem) h = refl
upper_none f u n (Some (kind.Null layer)) h = refl
upper_none f u n None h = refl

module _ (w new : World) (c : ℕ) (text : List ℕ) (d : Seen) (n : List ℕ) (o : Option Seen) (ns : List (List ℕ)) (sound : IsSound w) (lasts : IsLasting w)
    (at : found_at w c (way leaf.Parent text) ≡ found.In d n o) (is : apply w c (call.Undelete text) ≡ Finished new reply.Done) where
  target : IsTarget (facts_of w) d n o
  target = target_in w (found_at w c (way leaf.Parent text)) d n o (well_at w sound lasts c (way leaf.Parent text)) at

  cleared : Leaves w d n None new
  cleared =
      let a = found_at w c (way leaf.Parent text) in
      subst (λ a. LeavesAt w (λ d. None) a new) at
      (done-so (LeavesAt w (λ d. None) a) w new c (call.Undelete text) (undelete_clears w a (well_at w sound lasts c (way leaf.Parent text))) is)

  pub undeleted_other : is_in_union d ≡ false → shown new d (n ∷ ns) ≡ None
  undeleted_other other =
      hides w new d n ns target.good.sound.mounts (subst (λ b. Leaves w d n (left b) new) (sym other) cleared)

  abbrev g : Facts
  g = facts_of new

  module _ (layered : IsLayered w) (m u : ℕ) (up : bare d ≡ UnionUp m u) where
    no_entry : upper_entry g (kind_in g m) u n ≡ None
    no_entry =
        let rests : base (facts_of w) d ≡ base (facts_of w) (UnionUp m u) = sym (base_bare (facts_of w) d) ∙ ap (base (facts_of w)) up in
        ap (λ (o : Option MountKind). upper_entry g o u n) (kinds_same w new cleared.mounts m)
        ∙ upper_none g u n (kind_in (facts_of w) m) (ap (λ (b : NodeId). g.entry b.store b.ino n) (sym rests) ∙ cleared.entry)

    abbrev below : Child
    below = shown_low g m u n (child_below (shown_child g) (shown_lower g m u) n)

    pub undeleted_union : shown new d (n ∷ ns) ≡ shown_under new below ns
    undeleted_union =
        let s = sound_left w new c (call.Undelete text) reply.Done refl is sound lasts in
        let l = layered_left w new c (call.Undelete text) reply.Done refl is sound lasts layered in
        shown_bare new s l d (n ∷ ns) (over_falling w sound d target.good.over)
        ∙ ap (λ p. shown new p (n ∷ ns)) up
        ∙ shown_below new (UnionUp m u) n ns
        ∙ ap (λ (x : Child). shown_under new x ns)
        (shown_union_whole new s l m u n ∙ ap (λ (e : Option NameEntry). shown_union g m u n e (child_below (shown_child g) (shown_lower g m u))) no_entry)
