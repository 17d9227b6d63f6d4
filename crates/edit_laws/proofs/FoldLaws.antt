-- The edits of entries tell what they do to names and mounts.
use Rattle.std.proofs.Common.{◌≡◌, ℕ, zero, suc, Bool, true, false, cond, not, ◌&&◌, ◌||◌, ◌==◌, List, [], ◌∷◌, refl, ap, sym, ◌∙◌, subst, nat_cmp, eqb-true, eq-eqb}
use Rattle.std.specs.Prelude.{Option, Some, None, IfSome, option_map, MatchBool}
use Rattle.std.specs.List.{list_any}
use Rattle.std.specs.Cmp.{nat_cmp_total, unsigned_ties}
use Rattle.std.specs.Ordering.{eq_by_cmp}
use Rattle.std.specs.FinMap.{get, remove, get-remove}
use Rattle.std.proofs.lemmas.Map.Lookups.{exact_unsigned}
use Rattle.finite_maps.proofs.EntryLaws.{by_key, get_at-insert}
use Rattle.vfs_tree.specs.Facts.{Facts}
use Rattle.vfs_tree.specs.Mounts.{Leaving, is_left, is_on, layers_at, stands_within, is_of, cut_with, has_references, is_covered}
use Rattle.vfs_tree.specs.Place.{Seen}
use Rattle.vfs_tree.specs.Sound.{IsSound, covers_by, is_on_place}
use Rattle.vfs_tree.specs.Views.{facts_of}
use Rattle.vfs_tree.specs.declared.errno.Errno.{Errno}
use Rattle.vfs_tree.specs.declared.mount.Mount.{Mount}
use Rattle.vfs_tree.specs.declared.walk.Found.{Found}
use Rattle.vfs_tree.specs.declared.walk.Found.TheVariants as found
use Rattle.vfs_tree.specs.declared.world.World.{World}
use Rattle.call_model.specs.Apply.{Finished, apply}
use Rattle.call_model.specs.Checks.{is_full, upper_store, mount_at, dir_at}
use Rattle.call_model.specs.Effects.{detached, doomed_place}
use Rattle.call_model.specs.Legal.{MayAnswer, MayLackMemory, after, is_no_memory, replay, world_after}
use Rattle.call_model.specs.MountRows as rows
use Rattle.call_model.specs.NameEdits.{Edit, edited_by, edits, edits_of, is_fail, call_edits, umount_edits, umount_force_edits, stands_among, is_of_mount, uncovered, with_cut, without_mount_at}
use Rattle.call_model.specs.Refs.{first_in, place_of}
use Rattle.call_model.specs.Rows.{first_found, second_found}
use Rattle.call_model.specs.declared.call.Call.{Call}
use Rattle.call_model.specs.declared.call.Call.TheVariants as call
use Rattle.call_model.specs.declared.entry.Entry.{Entry}
use Rattle.call_model.specs.declared.entry.Entry.TheVariants as entry
use Rattle.call_model.specs.declared.entry.Inner.TheVariants.{Detach, Doom}
use Rattle.call_model.specs.declared.entry.Ref.{Ref}
use Rattle.call_model.specs.declared.reply.Reply.{Reply}
use Rattle.call_model.specs.declared.reply.Reply.TheVariants as reply
use Rattle.call_laws.specs.Lasting.{IsLasting}
use Rattle.call_laws.specs.Quiet.{IsQuiet}
use Rattle.call_laws.proofs.EditLaws.{edited-joined}
use Rattle.call_laws.proofs.FlagLaws.{get_each}
use Rattle.call_laws.proofs.NamedLaws.{no_way, any_value, value_any}
use Rattle.call_laws.proofs.Parts.{Keeps, found_so, refused, needed, then, unless}
use Rattle.call_laws.proofs.RefusalLaws.{failed_row}
use Rattle.call_laws.proofs.SoundLaws.{sound-detach}
use Rattle.call_laws.proofs.SoundParts.{number_or}
use Rattle.call_laws.proofs.SoundRows.{LeavesSo, AnyNeed, IsSteady, so-quiet}
use Rattle.call_laws.proofs.UmountLaws.{whole-without, whole-left}
use Rattle.call_laws.proofs.Whole.{IsWhole}
use Rattle.model_laws.proofs.AlikeLaws.{same_view}
use Rattle.model_laws.proofs.Leaving.{past, left-so, done-so}
use Rattle.edit_laws.specs.Telling.{Tells, AllTell}
use Rattle.edit_laws.proofs.ByteViews.{bytes_view}
use Rattle.edit_laws.proofs.CoverLaws.{AreApart, OthersLeft, covers_same, uncover}

-- ---- histories

pub told_history : (w : World) (es : List Entry) → AllTell w es → facts_of (replay w es) ≡ edited_by (facts_of w) (edits w es)
told_history w [] h = refl
told_history w (e ∷ es) h =
    told_history (after w e) es h.1
    ∙ ap (λ (f : Facts). edited_by f (edits (after w e) es)) h.0
    ∙ sym (edited-joined (facts_of w) (edits_of w e) (edits (after w e) es))

pub told_none : (w : World) (e : Entry) → Tells w e → edits_of w e ≡ [] → facts_of (after w e) ≡ facts_of w
told_none w e h none = h ∙ ap (edited_by (facts_of w)) none

-- ---- calls without edits

steady_view : (f : Facts) → IsSteady (λ v. facts_of v ≡ f)
steady_view f = record {
  moved = λ w k o at h is. h;
  closed = λ w k h. h;
  entered = λ w c k o h is alive dir. h;
  written = λ w s i g h. bytes_view w s i g ∙ h;
}

no_edits : (w : World) (c : ℕ) (call : Call) (a b : Found) → IsQuiet call → call_edits w c call a b ≡ []
no_edits w c (call.Close d) a b q = refl
no_edits w c (call.Read d n) a b q = refl
no_edits w c (call.Pread d n o) a b q = refl
no_edits w c (call.Lseek d x i) a b q = refl
no_edits w c (call.Write d bytes) a b q = refl
no_edits w c (call.Pwrite d o bytes) a b q = refl
no_edits w c (call.Truncate p n) a b q = refl
no_edits w c (call.Ftruncate d n) a b q = refl
no_edits w c (call.Stat p) a b q = refl
no_edits w c (call.Lstat p) a b q = refl
no_edits w c (call.Fstat d) a b q = refl
no_edits w c (call.Readdir d) a b q = refl
no_edits w c (call.Readlink p) a b q = refl
no_edits w c (call.Fchdir d) a b q = refl
no_edits w c (call.Statfs p) a b q = refl
no_edits w c (call.Revoke p) a b q = refl
no_edits w c _ a b q = absurd q

none_either : (b : Bool) (es : List Edit) → es ≡ [] → cond b [] es ≡ []
none_either true es h = refl
none_either false es h = h

pub quiet_tells : (w : World) (c : ℕ) (call : Call) (r : Reply) → IsQuiet call → Tells w (entry.Call c call r)
quiet_tells w c call r quiet =
    let a = first_found w c call in
    let b = second_found w c call in
    so-quiet (λ v. facts_of v ≡ facts_of w) (steady_view (facts_of w)) w c call r quiet refl
    ∙ sym (ap (edited_by (facts_of w)) (none_either (is_fail r) (call_edits w c call a b) (no_edits w c call a b quiet)))

pub chdir_tells : (w : World) (c : ℕ) (text : List ℕ) (r : Reply) → Tells w (entry.Call c (call.Chdir text) r)
chdir_tells w c text r =
    let x = call.Chdir text in
    left-so (λ v. facts_of v ≡ facts_of w) w c x r refl (past (dir_at w (first_found w c x)) (λ d. found_so refl))
    ∙ sym (ap (edited_by (facts_of w)) (none_either (is_fail r) [] refl))

-- a call that fails leaves the world
failed_after : (w new : World) (ds : List ℕ) (c : ℕ) (call : Call) (e : Errno) → MayAnswer w ds c call (reply.Fail e) new → after w (entry.Call c call (reply.Fail e)) ≡ w
failed_after w new ds c call e h =
    elim (is_no_memory (reply.Fail e)) as (λ b. MatchBool b (MayLackMemory w ds c × (new ≡ w)) (apply w c call ≡ Finished new (reply.Fail e)) → cond b w (world_after w (apply w c call)) ≡ w) [
      | true ↦ λ x. refl
      | false ↦ λ x. ap (world_after w) x ∙ failed_row w new c call e x
    ] h

pub failed_tells : (w new : World) (ds : List ℕ) (c : ℕ) (call : Call) (e : Errno) → MayAnswer w ds c call (reply.Fail e) new → Tells w (entry.Call c call (reply.Fail e))
failed_tells w new ds c call e h = ap facts_of (failed_after w new ds c call e h)

-- ---- dooms

doomed_view : (w : World) (o : Option Seen) → facts_of (doomed_place w o) ≡ facts_of w
doomed_view w (Some p) = refl
doomed_view w None = refl

pub doom_tells : (w : World) (c : ℕ) (at : Ref) → Tells w (entry.Inner c (Doom at))
doom_tells w c at = doomed_view w (place_of w at)

-- ---- detachments

pub apart_whole : (w : World) → IsWhole w → AreApart w
apart_whole w h = record { numbers = h.lasts.mounts; apart = h.sound.apart }

-- what stands on a mount, by its view
among_is : (k : ℕ) (w : World) (a b : ℕ) → stands_within k w.mounts a b ≡ stands_among k (facts_of w) a b
among_is zero w a b = refl
among_is (suc k) w a b = λ i. list_any (λ l. (l == b) || among_is k w l b i) (layers_at (get w.mounts a))

of_is : (w : World) (m a : ℕ) → is_of w.mounts m a ≡ is_of_mount (facts_of w) m a
of_is w m a = ap (λ b. (a == m) || b) (among_is (suc a) w a m)

same_truth : (a b : Bool) → (a ≡ true → b ≡ true) → (b ≡ true → a ≡ true) → a ≡ b
same_truth true b f g = sym (f refl)
same_truth false true f g = g refl
same_truth false false f g = refl

module _ (w : World) (c m : ℕ) (whole : IsWhole w) (stays : get w.leaving c ≡ None) where
  abbrev v : World
  v = detached w c m

  more_left : OthersLeft v.leaving w.leaving m
  more_left n ne = same_truth (is_left v.leaving n) (is_left w.leaving n)
      (λ left. let x = any_value nat_cmp nat_cmp_total (λ k. k == n) v.leaving left in
      by_key nat_cmp_total exact_unsigned w.leaving c m x.key (λ o. o ≡ Some x.value → is_left w.leaving n ≡ true)
      (λ is e. absurd (ne (sym (ap number_or e ∙ eqb-true x.value n x.passes))))
      (λ e. value_any nat_cmp (λ k. k == n) w.leaving x.key x.value e x.passes) x.at)
      (λ left. let x = any_value nat_cmp nat_cmp_total (λ k. k == n) w.leaving left in
      value_any nat_cmp (λ k. k == n) v.leaving x.key x.value
      (by_key nat_cmp_total exact_unsigned w.leaving c m x.key (λ o. o ≡ Some x.value)
      (λ is. absurd (let clash : None ≡ Some x.value = sym stays ∙ ap (get w.leaving) (sym is) ∙ x.at in cc)) x.at) x.passes)

  own_left : is_left v.leaving m ≡ true
  own_left = value_any nat_cmp (λ k. k == m) v.leaving c m (get_at-insert nat_cmp_total w.leaving c m) (eq-eqb m m refl)

  mount_is : (n : ℕ) → get v.mounts n ≡ option_map (cut_with w.mounts m) (get w.mounts n)
  mount_is n = get_each nat_cmp_total (cut_with w.mounts m) w.mounts n

  number_kept : (n : ℕ) (o : Option Mount) → IfSome o (λ t. t.number ≡ n) → IfSome (option_map (cut_with w.mounts m) o) (λ t. t.number ≡ n)
  number_kept n (Some t) h = h
  number_kept n None h = tt

  apart_then : AreApart v
  apart_then = record {
    numbers = λ n. subst (λ o. IfSome o (λ t. t.number ≡ n)) (sym (mount_is n)) (number_kept n (get w.mounts n) (whole.lasts.mounts n));
    apart = (sound-detach w c m stays whole.sound).apart;
  }

  cut_covers : (p : Seen) (o : Option Mount) → covers_by w.leaving p (option_map (cut_with w.mounts m) o) ≡ covers_by w.leaving p o
  cut_covers p (Some t) = refl
  cut_covers p None = refl

  others_on : (n : ℕ) → (n ≡ m → ⊥) → (p : Seen) → is_on_place v p n ≡ is_on_place w p n
  others_on n ne p =
      covers_same v.leaving w.leaving m more_left p n ne (get v.mounts n) (apart_then.numbers n)
      ∙ ap (covers_by w.leaving p) (mount_is n) ∙ cut_covers p (get w.mounts n)

  covers_none : (p : Seen) (o : Option Mount) → IfSome o (λ t. t.number ≡ m) → covers_by v.leaving p o ≡ false
  covers_none p (Some t) is = none (is_on t.on p) (is_left v.leaving t.number) (ap (is_left v.leaving) is ∙ own_left)
    where
      none : (a b : Bool) → b ≡ true → (a && not b) ≡ false
      none true true e = refl
      none false b e = refl
      none true false e = no_way e
  covers_none p None is = refl

  cut_is : (n : ℕ) → get v.mounts n ≡ (with_cut m (facts_of w)).mount n
  cut_is n = mount_is n ∙ (λ k. option_map (λ (t : Mount). record t { cut = t.cut || of_is w m t.number k }) (get w.mounts n))

  detached_view : facts_of v ≡ uncovered m (with_cut m (facts_of w))
  detached_view = same_view (facts_of v) (uncovered m (with_cut m (facts_of w))) (record {
    entry = λ s d n. refl;
    kind = λ s i. refl;
    dir = λ s i. refl;
    name_of = λ s i. refl;
    target = λ s i. refl;
    covering = λ p. uncover w v m (apart_whole w whole) apart_then others_on (λ q. covers_none q (get v.mounts m) (apart_then.numbers m)) p;
    mount = cut_is;
  })

pub detach_tells : (w : World) (c m : ℕ) → IsSound w → IsLasting w → get w.leaving c ≡ None → Tells w (entry.Inner c (Detach m))
detach_tells w c m sound lasts stays = detached_view w c m (record { sound = sound; lasts = lasts }) stays

-- ---- unmounts

module _ (w : World) (m : ℕ) (leaving : Leaving) (before : IsWhole w) (whole : IsWhole (record w { mounts = remove w.mounts m; leaving = leaving })) (same : OthersLeft leaving w.leaving m) where
  abbrev fewer : World
  fewer = record w { mounts = remove w.mounts m; leaving = leaving }

  removed_is : (n : ℕ) → get fewer.mounts n ≡ cond (n == m) None (get w.mounts n)
  removed_is n = get-remove nat_cmp_total w.mounts m n ∙ ap (λ b. cond b None (get w.mounts n)) (sym (unsigned_ties n m))

  other_mount : (n : ℕ) → (n ≡ m → ⊥) → get fewer.mounts n ≡ get w.mounts n
  other_mount n ne = removed_is n ∙ by (n == m) refl
    where
      by : (b : Bool) → (n == m) ≡ b → cond b None (get w.mounts n) ≡ get w.mounts n
      by true e = absurd (ne (eqb-true n m e))
      by false e = refl

  others_there : (n : ℕ) → (n ≡ m → ⊥) → (p : Seen) → is_on_place fewer p n ≡ is_on_place w p n
  others_there n ne p = ap (covers_by leaving p) (other_mount n ne) ∙ covers_same leaving w.leaving m same p n ne (get w.mounts n) (before.lasts.mounts n)

  gone_there : (p : Seen) → is_on_place fewer p m ≡ false
  gone_there p = ap (covers_by leaving p) (removed_is m ∙ ap (λ b. cond b None (get w.mounts m)) (eq-eqb m m refl))

  dropped_view : facts_of fewer ≡ uncovered m (without_mount_at m (facts_of w))
  dropped_view = same_view (facts_of fewer) (uncovered m (without_mount_at m (facts_of w))) (record {
    entry = λ s d n. refl;
    kind = λ s i. refl;
    dir = λ s i. refl;
    name_of = λ s i. refl;
    target = λ s i. refl;
    covering = λ p. uncover w fewer m (apart_whole w before) (apart_whole fewer whole) others_there gone_there p;
    mount = removed_is;
  })

found_mount : (w : World) (a : Found) → Keeps (λ m. a ≡ found.Mount m) AnyNeed (mount_at w a)
found_mount w (found.Mount m) = found_so refl
found_mount w (found.Need x) = unless (is_full w (upper_store w x.mount)) _ (λ _. needed tt)
found_mount w _ = refused

not_zero : (m : ℕ) → (m == 0) ≡ false → m ≡ 0 → ⊥
not_zero m e is = no_way (sym e ∙ eq-eqb m 0 is)

-- an unmount that is done drops the mount
abbrev Drops : World → List Edit → World → Type 0
Drops w es v = facts_of v ≡ edited_by (facts_of w) es

umount_drops : (w : World) (a : Found) → IsWhole w → Keeps (LeavesSo (Drops w (umount_edits a))) AnyNeed (rows.umount w a)
umount_drops w a h =
    then (mount_at w a) (found_mount w a) (λ m is.
    unless (m == 0) _ (λ other.
    unless (has_references w m) _ (λ free.
    found_so (dropped_view w m w.leaving h (whole-without w m free h (not_zero m other)) (λ n ne. refl) ∙ ap (λ b. edited_by (facts_of w) (umount_edits b)) (sym is)))))

-- the caller has left it
fewer_left : (leaving : Leaving) (c m : ℕ) → get leaving c ≡ Some m → OthersLeft (remove leaving c) leaving m
fewer_left leaving c m at n ne = same_truth (is_left (remove leaving c) n) (is_left leaving n)
    (λ left. let x = any_value nat_cmp nat_cmp_total (λ k. k == n) (remove leaving c) left in
    value_any nat_cmp (λ k. k == n) leaving x.key x.value (there (eq_by_cmp nat_cmp x.key c) x.key x.value (sym (get-remove nat_cmp_total leaving c x.key) ∙ x.at)) x.passes)
    (λ left. let x = any_value nat_cmp nat_cmp_total (λ k. k == n) leaving left in
    value_any nat_cmp (λ k. k == n) (remove leaving c) x.key x.value
    (get-remove nat_cmp_total leaving c x.key ∙ ap (λ b. cond b None (get leaving x.key)) (sym (unsigned_ties x.key c)) ∙ kept (x.key == c) x.key x.value refl x.at x.passes) x.passes)
  where
    there : (b : Bool) (k v : ℕ) → cond b None (get leaving k) ≡ Some v → get leaving k ≡ Some v
    there true k v e = absurd (let clash : None ≡ Some v = e in cc)
    there false k v e = e

    kept : (b : Bool) → (k v : ℕ) → (k == c) ≡ b → get leaving k ≡ Some v → (v == n) ≡ true → cond b None (get leaving k) ≡ Some v
    kept true k v is e passes = absurd (ne (sym (ap number_or (sym at ∙ ap (get leaving) (sym (eqb-true k c is)) ∙ e) ∙ eqb-true v n passes)))
    kept false k v is e passes = e

next_drops : (w : World) (c m : ℕ) → IsWhole w → get w.leaving c ≡ Some m → (o : Option Ref) → first_in w m ≡ o → Keeps (LeavesSo (Drops w (umount_force_edits (Some m)))) AnyNeed (rows.doom_next w c m o)
next_drops w c m h at (Some r) is = needed tt
next_drops w c m h at None is = found_so (dropped_view w m (remove w.leaving c) h (whole-left w m is h c at) (fewer_left w.leaving c m at))

force_drops : (w : World) (c : ℕ) (a : Found) → IsWhole w → (o : Option ℕ) → get w.leaving c ≡ o → Keeps (LeavesSo (Drops w (umount_force_edits o))) AnyNeed (rows.umount_by w c a o)
force_drops w c a h (Some m) at = next_drops w c m h at (first_in w m) refl
force_drops w c a h None at = past (mount_at w a) (λ m. unless (m == 0) _ (λ _. unless (is_covered w m) _ (λ _. needed tt)))

-- what a call that is done leaves is what its entry leaves
done_tells : (w new : World) (c : ℕ) (x : Call) (es : List Edit) → apply w c x ≡ Finished new reply.Done → Drops w es new → facts_of (after w (entry.Call c x reply.Done)) ≡ edited_by (facts_of w) es
done_tells w new c x es is h = ap (λ o. facts_of (world_after w o)) is ∙ h

pub umount_tells : (w new : World) (c : ℕ) (text : List ℕ) → IsSound w → IsLasting w → apply w c (call.Umount text) ≡ Finished new reply.Done → Tells w (entry.Call c (call.Umount text) reply.Done)
umount_tells w new c text sound lasts is =
    let x = call.Umount text in
    let a = first_found w c x in
    done_tells w new c x (umount_edits a) is (done-so (Drops w (umount_edits a)) w new c x (umount_drops w a (record { sound = sound; lasts = lasts })) is)

pub force_tells : (w new : World) (c : ℕ) (text : List ℕ) → IsSound w → IsLasting w → apply w c (call.UmountForce text) ≡ Finished new reply.Done → Tells w (entry.Call c (call.UmountForce text) reply.Done)
force_tells w new c text sound lasts is =
    let x = call.UmountForce text in
    let es = umount_force_edits (get w.leaving c) in
    done_tells w new c x es is (done-so (Drops w es) w new c x (force_drops w c (first_found w c x) (record { sound = sound; lasts = lasts }) (get w.leaving c) refl) is)
