-- What the layers of mounts lie over, also of mounts that a forced unmount has cut off.
use Rattle.std.proofs.Common.{◌≡◌, ℕ, ◌<◌, inl, inr, Bool, true, false, List, refl, ap, sym, ◌∙◌, subst, arith}
use Rattle.std.specs.Prelude.{Option, Some, None, IfSome, is_some, option_map}
use Rattle.std.specs.FinMap.{get}
use Rattle.vfs_tree.specs.Facts.{Facts}
use Rattle.vfs_tree.specs.Layers.{kind_in}
use Rattle.vfs_tree.specs.Mounts.{is_left}
use Rattle.vfs_tree.specs.Place.{Seen, Mem, Null, UnionUp, UnionLow}
use Rattle.vfs_tree.specs.Sound.{is_mem, is_null, is_union, names_mounts, EachLayer, EachPlace, IsBelow, IsSound}
use Rattle.vfs_tree.specs.Start.{start_world, root_mount}
use Rattle.vfs_tree.specs.Views.{facts_of}
use Rattle.vfs_tree.specs.declared.limits.Limits.{Limits}
use Rattle.vfs_tree.specs.declared.mount.Mount.{Mount}
use Rattle.vfs_tree.specs.declared.mount.MountKind.{MountKind}
use Rattle.vfs_tree.specs.declared.mount.MountKind.TheVariants as kind
use Rattle.vfs_tree.specs.declared.walk.Step.TheVariants.{Wants}
use Rattle.vfs_tree.specs.declared.world.World.{World}
use Rattle.call_model.specs.Effects.{effect}
use Rattle.call_model.specs.Legal.{Pending, IsLegal, after, replay}
use Rattle.call_model.specs.Rows.{row}
use Rattle.call_model.specs.declared.call.Call.{Call}
use Rattle.call_model.specs.declared.call.Call.TheVariants as call
use Rattle.call_model.specs.declared.entry.Entry.{Entry}
use Rattle.call_model.specs.declared.entry.Entry.TheVariants as entry
use Rattle.call_model.specs.declared.entry.Inner.{Inner}
use Rattle.call_model.specs.declared.reply.Reply.{Reply}
use Rattle.call_laws.specs.Lasting.{lower_mount, IsOver, IsLasting}
use Rattle.call_laws.proofs.NamedLaws.{no_way}
use Rattle.call_laws.proofs.PlaceLaws.{lasting-start}
use Rattle.call_laws.proofs.SoundLaws.{only, sound-start}
use Rattle.call_laws.proofs.SoundParts.{first_of, second_of, both_of, if_both, mapped, each_place}
use Rattle.call_laws.proofs.Whole.{IsWhole}
use Rattle.model_laws.specs.Unmounted.{StaysThere, LayersStay}
use Rattle.model_laws.proofs.UnmountLaws.{mount_was, layers_stay}
use Rattle.layer_laws.specs.Lying.{LiesOver, LayersLieOver, SoundStays, SoundLayersStay}
use Rattle.layer_laws.proofs.ApartLaws.{uncut, WasOrNext, Adds, fewer_kinds, kept_call, kept_needed, kept_history, whole}

both_layers : (P Q R : Seen → Type 0) → ((p : Seen) → P p → Q p → R p) → (k : MountKind) → EachLayer P k → EachLayer Q k → EachLayer R k
both_layers P Q R f kind.Mem a b = tt
both_layers P Q R f (kind.Null layer) a b = f layer a b
both_layers P Q R f (kind.Union s u lower) a b = (f (Mem s u) a.0 b.0, f lower a.1 b.1)

both_places : (P Q R : Seen → Type 0) → ((p : Seen) → P p → Q p → R p) → (t : Mount) → EachPlace P t → EachPlace Q t → EachPlace R t
both_places P Q R f t a b = (if_both P Q R f t.on a.0 b.0, both_layers P Q R f t.kind a.1 b.1)

-- ---- places whose mounts were there

module _ (f g : Facts) (b : ℕ) (fewer : (n : ℕ) (k : MountKind) → n < b → kind_in g n ≡ Some k → kind_in f n ≡ Some k) where
  same_kind : (test : Option MountKind → Bool) → test None ≡ false → (n : ℕ) → n < b → test (kind_in g n) ≡ true → kind_in f n ≡ kind_in g n
  same_kind test none n less = by (kind_in g n) refl
    where
      by : (o : Option MountKind) → kind_in g n ≡ o → test o ≡ true → kind_in f n ≡ o
      by (Some k) is h = fewer n k less is
      by None is h = no_way (sym none ∙ h)

  names_before : (m : ℕ) → m < b → (p : Seen) → IsBelow m p → names_mounts g p ≡ true → names_mounts f p ≡ true
  names_before m less (Mem n i) x h = ap is_mem (same_kind is_mem refl n (omega (arith, less, x)) h) ∙ h
  names_before m less (Null n p) x h =
      let own : is_null (kind_in g n) ≡ true = first_of (is_null (kind_in g n)) (names_mounts g p) h in
      both_of (is_null (kind_in f n)) (names_mounts f p) (ap is_null (same_kind is_null refl n (omega (arith, less, x.0)) own) ∙ own)
      (names_before m less p x.1 (second_of (is_null (kind_in g n)) (names_mounts g p) h))
  names_before m less (UnionUp n i) x h = ap is_union (same_kind is_union refl n (omega (arith, less, x)) h) ∙ h
  names_before m less (UnionLow n u a p) x h =
      let own : is_union (kind_in g n) ≡ true = first_of (is_union (kind_in g n)) (names_mounts g p) h in
      both_of (is_union (kind_in f n)) (names_mounts f p) (ap is_union (same_kind is_union refl n (omega (arith, less, x.0)) own) ∙ own)
      (names_before m less p x.1 (second_of (is_union (kind_in g n)) (names_mounts g p) h))

  over_after : (m : ℕ) → m < b → (p : Seen) → IsBelow m p → names_mounts g p ≡ true → IsOver f p → IsOver g p
  over_after m less (Mem n i) x h over = tt
  over_after m less (Null n p) x h over = (
    ap lower_mount (sym (same_kind is_null refl n (omega (arith, less, x.0)) (first_of (is_null (kind_in g n)) (names_mounts g p) h))) ∙ over.0,
    over_after m less p x.1 (second_of (is_null (kind_in g n)) (names_mounts g p) h) over.1,
  )
  over_after m less (UnionUp n i) x h over = tt
  over_after m less (UnionLow n u a p) x h over = (
    ap lower_mount (sym (same_kind is_union refl n (omega (arith, less, x.0)) (first_of (is_union (kind_in g n)) (names_mounts g p) h))) ∙ over.0,
    over_after m less p x.1 (second_of (is_union (kind_in g n)) (names_mounts g p) h) over.1,
  )

-- ---- worlds

module _ (w v : World) (hw : IsWhole w) (hv : IsWhole v) (adds : Adds w v) where
  lies_still : (m : ℕ) → m < w.next_mount → (p : Seen) → IsBelow m p → LiesOver w p → LiesOver v p
  lies_still m less p below lies named =
      over_after (facts_of w) (facts_of v) w.next_mount (fewer_kinds w v adds) m less p below named
      (lies (names_before (facts_of w) (facts_of v) w.next_mount (fewer_kinds w v adds) m less p below named))

  was_there : (o : Option Mount) (t : Mount) → option_map uncut o ≡ Some (uncut t) → is_some o ≡ true
  was_there (Some s) t e = refl
  was_there None t e = absurd (let clash : None ≡ Some (uncut t) = e in cc)

  at_mount : (m : ℕ) → IfSome (get w.mounts m) (EachPlace (LiesOver w)) → (o : Option Mount) → IfSome o (WasOrNext w m) → IfSome o (EachPlace (IsBelow m)) → IfSome o (λ t. t.cut ≡ false → EachPlace (IsOver (facts_of v)) t)
      → IfSome o (EachPlace (LiesOver v))
  at_mount m lies (Some t) x below over = elim x [
    | inl old ↦
        let was : EachPlace (LiesOver w) t = subst (λ o. IfSome o (EachPlace (LiesOver w))) old (mapped uncut (EachPlace (LiesOver w)) (EachPlace (LiesOver w)) (λ _ h. h) (get w.mounts m) lies) in
        both_places (IsBelow m) (LiesOver w) (LiesOver v) (lies_still m (hw.lasts.counted.mounts m (was_there (get w.mounts m) t old))) t below was
    | inr new ↦ each_place (IsOver (facts_of v)) (LiesOver v) (λ p h _. h) t (over new.2)
  ]
  at_mount m lies None x below over = tt

  lie_by : LayersLieOver w → LayersLieOver v
  lie_by lies m = at_mount m (lies m) (get v.mounts m) (adds m) (hv.sound.view.smaller m) (hv.lasts.overs m)

pub lie_start : (limits : Limits) → LayersLieOver (start_world limits)
lie_start limits m = only 0 root_mount m (λ o. IfSome o (EachPlace (LiesOver (start_world limits)))) (λ _. (tt, tt)) tt

pub lie_call : (w : World) (c : ℕ) (call : Call) (r : Reply) → IsSound w → IsLasting w → LayersLieOver w → LayersLieOver (after w (entry.Call c call r))
lie_call w c call r s l = kept_call LayersLieOver lie_by w c call r (whole w s l)

pub lie_needed : (w : World) (c : ℕ) (call : Call) (x : Inner) → row w c call ≡ Wants x → IsSound w → IsLasting w → LayersLieOver w → LayersLieOver (effect w c x)
lie_needed w c call x needs s l = kept_needed LayersLieOver lie_by w c call x needs (whole w s l)

pub lie_history : (p : Pending) (w : World) (es : List Entry) → IsLegal p w es → IsSound w → IsLasting w → LayersLieOver w → LayersLieOver (replay w es)
lie_history p w es legal s l = kept_history LayersLieOver lie_by p w es legal (whole w s l)

pub lie_from_start : (limits : Limits) (p : Pending) (es : List Entry) → IsLegal p (start_world limits) es → LayersLieOver (replay (start_world limits) es)
lie_from_start limits p es legal = lie_history p (start_world limits) es legal (sound-start limits) (lasting-start limits) (lie_start limits)

-- ---- an unmount without force

module _ (w v : World) (were : (m : ℕ) → IfSome (get v.mounts m) (λ t. get w.mounts m ≡ Some t)) (lies : LayersLieOver w) (stay : LayersStay w v) where
  sound_there : (p : Seen) → LiesOver w p → StaysThere w v p → SoundStays w v p
  sound_there p over there sound = there sound (over sound.mounts)

  was_at : (m : ℕ) (t : Mount) → get w.mounts m ≡ Some t → EachPlace (LiesOver w) t
  was_at m t at = subst (λ o. IfSome o (EachPlace (LiesOver w))) at (lies m)

  sound_layers : (m : ℕ) (o : Option Mount) → IfSome o (λ t. get w.mounts m ≡ Some t) → IfSome o (λ t. EachLayer (StaysThere w v) t.kind) → IfSome o (λ t. EachLayer (SoundStays w v) t.kind)
  sound_layers m (Some t) at x = both_layers (LiesOver w) (StaysThere w v) (SoundStays w v) sound_there t.kind (was_at m t at).1 x
  sound_layers m None at x = tt

  sound_covered : (m : ℕ) (o : Option Mount) → IfSome o (λ t. get w.mounts m ≡ Some t) → IfSome o (λ t. is_left w.leaving t.number ≡ false → IfSome t.on (StaysThere w v))
      → IfSome o (λ t. is_left w.leaving t.number ≡ false → IfSome t.on (SoundStays w v))
  sound_covered m (Some t) at x = λ left. if_both (LiesOver w) (StaysThere w v) (SoundStays w v) sound_there t.on (was_at m t at).0 (x left)
  sound_covered m None at x = tt

  sound_in : SoundLayersStay w v
  sound_in = record {
    layers = λ m. sound_layers m (get v.mounts m) (were m) (stay.layers m);
    covered = λ m. sound_covered m (get v.mounts m) (were m) (stay.covered m);
  }

pub sound_stay : (w : World) (c : ℕ) (text : List ℕ) (r : Reply) → LayersLieOver w → SoundLayersStay w (after w (entry.Call c (call.Umount text) r))
sound_stay w c text r lies = sound_in w (after w (entry.Call c (call.Umount text) r)) (mount_was w c text r) lies (layers_stay w c text r)

pub sound_stay_from_start : (limits : Limits) (p : Pending) (es : List Entry) (c : ℕ) (text : List ℕ) (r : Reply) → let w = replay (start_world limits) es in IsLegal p (start_world limits) es
    → SoundLayersStay w (after w (entry.Call c (call.Umount text) r))
sound_stay_from_start limits p es c text r legal = sound_stay (replay (start_world limits) es) c text r (lie_from_start limits p es legal)
