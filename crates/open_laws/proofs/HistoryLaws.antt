-- Every legal history lets the mounts of open files stand, so that no shadow directory of it changes what is shown.
use Rattle.std.proofs.Common.{◌≡◌, ℕ, zero, suc, true, false, not, ◌&&◌, ◌||◌, ◌==◌, List, [], ◌∷◌, ◌++◌, refl, ap, sym, ◌∙◌, subst, nat_cmp, eq-eqb}
use Rattle.std.specs.Prelude.{Option, Some, None, IfSome}
use Rattle.std.specs.List.{list_any}
use Rattle.std.specs.FinMap.{get, remove, get-empty}
use Rattle.finite_maps.specs.Keys.{pair_cmp}
use Rattle.vfs_tree.specs.Mounts.{Leaving, layers, layers_at, stands_within, stands_on, is_of, covers_in, is_open_in, is_cwd_in, is_mounted_in, has_references, is_covered}
use Rattle.vfs_tree.specs.Place.{mount_of}
use Rattle.vfs_tree.specs.Sound.{IsSound}
use Rattle.vfs_tree.specs.Start.{root_cwd, root_cwds, start_world}
use Rattle.vfs_tree.specs.declared.limits.Limits.{Limits}
use Rattle.vfs_tree.specs.declared.mount.Mount.{Mount}
use Rattle.vfs_tree.specs.declared.open.Cwd.{Cwd}
use Rattle.vfs_tree.specs.declared.open.Open.{Open}
use Rattle.vfs_tree.specs.declared.walk.Found.{Found}
use Rattle.vfs_tree.specs.declared.walk.Step.TheVariants.{Wants}
use Rattle.vfs_tree.specs.declared.world.World.{World}
use Rattle.call_model.specs.Apply.{Finished, settle, apply}
use Rattle.call_model.specs.Checks.{mount_at}
use Rattle.call_model.specs.Effects.{effect}
use Rattle.call_model.specs.Legal.{Pending, IsLegal, next_call, after, replay}
use Rattle.call_model.specs.MountRows as mounts
use Rattle.call_model.specs.Refs.{first_in}
use Rattle.call_model.specs.Rows.{first_way, first_found, second_found, decided, row}
use Rattle.call_model.specs.declared.call.Call.{Call}
use Rattle.call_model.specs.declared.call.Call.TheVariants as call
use Rattle.call_model.specs.declared.entry.Entry.{Entry}
use Rattle.call_model.specs.declared.entry.Entry.TheVariants as entry
use Rattle.call_model.specs.declared.entry.Inner.{Inner}
use Rattle.call_model.specs.declared.entry.Inner.TheVariants.{Shadow}
use Rattle.call_model.specs.declared.entry.Ref.{Ref}
use Rattle.call_model.specs.declared.reply.Reply.{Reply}
use Rattle.call_model.specs.declared.reply.Reply.TheVariants as reply
use Rattle.call_laws.specs.Lasting.{IsLasting}
use Rattle.call_laws.specs.Prefixes.{pending_before}
use Rattle.call_laws.specs.Quiet.{IsQuiet}
use Rattle.call_laws.proofs.DetachLaws.{any_more}
use Rattle.call_laws.proofs.NamedLaws.{no_way, value_any}
use Rattle.call_laws.proofs.NeededLaws.{whole-needed}
use Rattle.call_laws.proofs.Parts.{Keeps, found_so, needed, unless}
use Rattle.call_laws.proofs.PlaceLaws.{well_at, lasting-start}
use Rattle.call_laws.proofs.PrefixLaws.{legal-before, legal-after, replay-joined}
use Rattle.call_laws.proofs.SoundLaws.{sound-start, each_root}
use Rattle.call_laws.proofs.SoundParts.{both_of, if_each, or_none, or_second, not_so}
use Rattle.call_laws.proofs.SoundRows.{AnyNeed, LeavesSo, so-decide, so-quiet}
use Rattle.call_laws.proofs.UmountLaws.{whole-without, whole-left}
use Rattle.call_laws.proofs.Whole.{IsWhole}
use Rattle.call_laws.proofs.WorldLaws.{whole-call, IsNext, next_is, kept-history, sound_from_start, lasting_from_start}
use Rattle.model_laws.specs.Unmounted.{NoneIn}
use Rattle.model_laws.proofs.Leaving.{past, left-so}
use Rattle.model_laws.proofs.UnmountLaws.{none_left}
use Rattle.layer_laws.proofs.ApartLaws.{apart_from_start}
use Rattle.need_laws.specs.Showing.{ShowsAsBefore}
use Rattle.need_laws.proofs.FindLaws.{split}
use Rattle.open_laws.specs.Standing.{IsStanding, AreStanding, AllStand}
use Rattle.open_laws.proofs.CutLaws.{needed_shown}
use Rattle.open_laws.proofs.GrowLaws.{Fit, grows-itself, steady-grows, grows-inner, fit-mkdir, fit-rmdir, fit-unlink, fit-link, fit-symlink, fit-undelete, fit-rename, fit-chdir, fit-open_file, fit-mount_mem, fit-mount_null, fit-mount_union}
use Rattle.open_laws.proofs.StandLaws.{Grows, uncut_stands, grown_stands, left_stands, all_grown, all_left}

-- ---- unmount(2)

-- nothing is open in a mount to which nothing refers, or in one that stands on it
module _ (w : World) (m : ℕ) (free : has_references w m ≡ false) where
  unopened : is_open_in w m ≡ false
  unopened = (or_none (is_open_in w m) (is_cwd_in w m || is_mounted_in w m) free).0

  unmounted : is_mounted_in w m ≡ false
  unmounted = (or_none (is_cwd_in w m) (is_mounted_in w m) (or_none (is_open_in w m) (is_cwd_in w m || is_mounted_in w m) free).1).1

  none_at : (n : ℕ) (o : Option Mount) → get w.mounts n ≡ o → list_any (λ l. l == m) (layers_at o) ≡ true → ⊥
  none_at n (Some t) at e =
      no_way (sym unmounted ∙ value_any nat_cmp (λ t. covers_in w.leaving (λ n. n == m) t || list_any (λ l. l == m) (layers t.kind)) w.mounts n t at
      (or_second (covers_in w.leaving (λ n. n == m) t) (list_any (λ l. l == m) (layers t.kind)) e))
  none_at n None at e = no_way e

  none_stands : (k a : ℕ) → stands_within k w.mounts a m ≡ true → ⊥
  none_stands zero a e = no_way e
  none_stands (suc k) a e =
      none_at a (get w.mounts a) refl
      (any_more (λ l. (l == m) || stands_within k w.mounts l m) (λ l. l == m) (λ l is. split (l == m) (stands_within k w.mounts l m) (λ x. x) (λ x. absurd (none_stands k l x)) is) (layers_at (get w.mounts a)) e)

  none_open : (k : ℕ × ℕ) (o : Open) → get w.opens k ≡ Some o → o.dead ≡ false → is_of w.mounts m (mount_of o.place) ≡ false
  none_open k o at alive = not_so (is_of w.mounts m (mount_of o.place)) (λ e.
      split (mount_of o.place == m) (stands_on w.mounts (mount_of o.place) m)
      (λ is. no_way (sym unopened ∙ value_any pair_cmp (λ o. not o.dead && (mount_of o.place == m)) w.opens k o at (both_of (not o.dead) (mount_of o.place == m) (ap not alive) is)))
      (λ is. none_stands (suc (mount_of o.place)) (mount_of o.place) is) e)

  uncurrent : is_cwd_in w m ≡ false
  uncurrent = (or_none (is_cwd_in w m) (is_mounted_in w m) (or_none (is_open_in w m) (is_cwd_in w m || is_mounted_in w m) free).1).0

  none_cwd : (c : ℕ) (d : Cwd) → get w.cwds c ≡ Some d → d.dead ≡ false → is_of w.mounts m (mount_of d.place) ≡ false
  none_cwd c d at alive = not_so (is_of w.mounts m (mount_of d.place)) (λ e.
      split (mount_of d.place == m) (stands_on w.mounts (mount_of d.place) m)
      (λ is. no_way (sym uncurrent ∙ value_any nat_cmp (λ (d : Cwd). not d.dead && (mount_of d.place == m)) w.cwds c d at (both_of (not d.dead) (mount_of d.place == m) (ap not alive) is)))
      (λ is. none_stands (suc (mount_of d.place)) (mount_of d.place) is) e)

-- a mount goes, and others are leaving
abbrev without : World → ℕ → Leaving → World
without w m leaving = record w { mounts = remove w.mounts m; leaving = leaving }

-- a predicate that holds while mounts come, and while one goes in which nothing is open
module _ (A : World → Type 0) (w : World) (h : IsWhole w) (here : A w) (grow : (v : World) → IsWhole v → Grows w v → A v)
    (leave : (m : ℕ) (leaving : Leaving) → IsWhole (without w m leaving) → NoneIn w (without w m leaving) m → A (without w m leaving)) where
  keep-umount : (a : Found) → Keeps (LeavesSo A) AnyNeed (mounts.umount w a)
  keep-umount a =
      past (mount_at w a) (λ m.
      unless (m == 0) _ (λ other.
      unless (has_references w m) _ (λ free.
      found_so (leave m w.leaving (whole-without w m free h (λ e. no_way (sym other ∙ eq-eqb m 0 e))) (record { opens = none_open w m free; cwds = none_cwd w m free })))))

  keep-doom_next : (c m : ℕ) → get w.leaving c ≡ Some m → (o : Option Ref) → first_in w m ≡ o → Keeps (LeavesSo A) AnyNeed (mounts.doom_next w c m o)
  keep-doom_next c m leaves (Some at) is = needed tt
  keep-doom_next c m leaves None is =
      let x = call.UmountForce (47 ∷ []) in
      let done : apply w c x ≡ Finished (mounts.left w c m) reply.Done =
      ap (λ o. settle w (mounts.umount_by w c (first_found w c x) o)) leaves ∙ ap (λ o. settle w (mounts.doom_next w c m o)) is in
      found_so (leave m (remove w.leaving c) (whole-left w m is h c leaves) (none_left w (mounts.left w c m) c m (47 ∷ []) done leaves))

  keep-umount_by : (c : ℕ) (a : Found) (o : Option ℕ) → get w.leaving c ≡ o → Keeps (LeavesSo A) AnyNeed (mounts.umount_by w c a o)
  keep-umount_by c a (Some m) is = keep-doom_next c m is (first_in w m) refl
  keep-umount_by c a None is = past (mount_at w a) (λ m. unless (m == 0) _ (λ _. unless (is_covered w m) _ (λ _. needed tt)))

  -- ---- all calls

  module _ (c : ℕ) (r : Reply) where
    grown : (x : Call) → Grows w (after w (entry.Call c x r)) → A (after w (entry.Call c x r))
    grown x grows = grow (after w (entry.Call c x r)) (whole-call w c r h x) grows

    fits : (x : Call) → Fit w h (decided w c x (first_found w c x) (second_found w c x)) → A (after w (entry.Call c x r))
    fits x k = grown x (so-decide (Grows w) (steady-grows w h) w c x r (grows-itself w h) k)

    quiet : (x : Call) → IsQuiet x → A (after w (entry.Call c x r))
    quiet x is = grown x (so-quiet (Grows w) (steady-grows w h) w c x r is (grows-itself w h))

    keep-call : (x : Call) → A (after w (entry.Call c x r))
    keep-call (call.Mkdir p) = let x = call.Mkdir p in fits x (fit-mkdir w h (first_found w c x))
    keep-call (call.Rmdir p) = let x = call.Rmdir p in fits x (fit-rmdir w h (first_found w c x))
    keep-call (call.Open p f) = let x = call.Open p f in fits x (fit-open_file w h c f (first_found w c x) (well_at w h.sound h.lasts c (first_way x)))
    keep-call (call.Close d) = quiet (call.Close d) tt
    keep-call (call.Read d n) = quiet (call.Read d n) tt
    keep-call (call.Pread d n o) = quiet (call.Pread d n o) tt
    keep-call (call.Write d bytes) = quiet (call.Write d bytes) tt
    keep-call (call.Pwrite d o bytes) = quiet (call.Pwrite d o bytes) tt
    keep-call (call.Lseek d x i) = quiet (call.Lseek d x i) tt
    keep-call (call.Truncate p n) = quiet (call.Truncate p n) tt
    keep-call (call.Ftruncate d n) = quiet (call.Ftruncate d n) tt
    keep-call (call.Stat p) = quiet (call.Stat p) tt
    keep-call (call.Lstat p) = quiet (call.Lstat p) tt
    keep-call (call.Fstat d) = quiet (call.Fstat d) tt
    keep-call (call.Readdir d) = quiet (call.Readdir d) tt
    keep-call (call.Unlink p) = let x = call.Unlink p in fits x (fit-unlink w h (first_found w c x))
    keep-call (call.Rename p q) = let x = call.Rename p q in fits x (fit-rename w h (first_found w c x) (second_found w c x))
    keep-call (call.Link p q) = let x = call.Link p q in fits x (fit-link w h (first_found w c x) (second_found w c x))
    keep-call (call.Symlink t p) = let x = call.Symlink t p in fits x (fit-symlink w h t (first_found w c x))
    keep-call (call.Readlink p) = quiet (call.Readlink p) tt
    keep-call (call.Undelete p) = let x = call.Undelete p in fits x (fit-undelete w h (first_found w c x))
    keep-call (call.Chdir p) = let x = call.Chdir p in fits x (fit-chdir w h c (first_found w c x) (well_at w h.sound h.lasts c (first_way x)))
    keep-call (call.Fchdir d) = quiet (call.Fchdir d) tt
    keep-call (call.Statfs p) = quiet (call.Statfs p) tt
    keep-call (call.MountMem p) = let x = call.MountMem p in fits x (fit-mount_mem w h (first_found w c x))
    keep-call (call.MountNull t p) = let x = call.MountNull t p in fits x (fit-mount_null w h (first_found w c x) (second_found w c x))
    keep-call (call.MountUnion u p) = let x = call.MountUnion u p in fits x (fit-mount_union w h (first_found w c x) (second_found w c x))
    keep-call (call.Umount p) = let x = call.Umount p in left-so A w c x r here (keep-umount (first_found w c x))
    keep-call (call.UmountForce p) = let x = call.UmountForce p in left-so A w c x r here (keep-umount_by c (first_found w c x) (get w.leaving c) refl)
    keep-call (call.Revoke p) = quiet (call.Revoke p) tt

module _ (w : World) (h : IsWhole w) (stands : AreStanding w) where
  stand-call : (c : ℕ) (r : Reply) (x : Call) → AreStanding (after w (entry.Call c x r))
  stand-call =
      keep-call AreStanding w h stands (λ v hv grows. grown_stands w v h hv grows stands) (λ m leaving hv none. left_stands w m leaving h hv none.opens stands)

  stand-needed : (c : ℕ) (x : Call) (i : Inner) → row w c x ≡ Wants i → AreStanding (effect w c i)
  stand-needed c x i needs = grown_stands w (effect w c i) h (whole-needed w c x i needs h) (grows-inner w h c i) stands

module _ (w : World) (h : IsWhole w) (stands : AllStand w) where
  all-call : (c : ℕ) (r : Reply) (x : Call) → AllStand (after w (entry.Call c x r))
  all-call = keep-call AllStand w h stands (λ v hv grows. all_grown w v h hv grows stands) (λ m leaving hv none. all_left w m leaving h hv none stands)

  all-needed : (c : ℕ) (x : Call) (i : Inner) → row w c x ≡ Wants i → AllStand (effect w c i)
  all-needed c x i needs = all_grown w (effect w c i) h (whole-needed w c x i needs h) (grows-inner w h c i) stands

-- ---- histories

pub standing_start : (limits : Limits) → AreStanding (start_world limits)
standing_start limits k = subst (λ o. IfSome o (λ o. o.dead ≡ false → IsStanding (start_world limits) (mount_of o.place))) (sym (get-empty {X = Open} pair_cmp k)) tt

pub standing_needed : (w : World) (c : ℕ) (call : Call) (x : Inner) → row w c call ≡ Wants x → IsSound w → IsLasting w → AreStanding w → AreStanding (effect w c x)
standing_needed w c call x needs s l a = stand-needed w (record { sound = s; lasts = l }) a c call x needs

pub standing_call : (w : World) (c : ℕ) (call : Call) (r : Reply) → IsSound w → IsLasting w → AreStanding w → AreStanding (after w (entry.Call c call r))
standing_call w c call r s l a = stand-call w (record { sound = s; lasts = l }) a c r call

pub standing_history : (p : Pending) (w : World) (es : List Entry) → IsLegal p w es → IsSound w → IsLasting w → AreStanding w → AreStanding (replay w es)
standing_history p w es legal s l a = kept-history AreStanding stand-call stand-needed p [] w es legal (record { sound = s; lasts = l }) a

pub standing_from_start : (limits : Limits) (p : Pending) (es : List Entry) → IsLegal p (start_world limits) es → AreStanding (replay (start_world limits) es)
standing_from_start limits p es legal = standing_history p (start_world limits) es legal (sound-start limits) (lasting-start limits) (standing_start limits)

-- ---- all references

cwd_at_start : (limits : Limits) (c : ℕ) → IfSome (get (start_world limits).cwds c) (λ d. d.dead ≡ false → IsStanding (start_world limits) (mount_of d.place))
cwd_at_start limits c =
    let w = start_world limits in
    let root : IsStanding w 0 = uncut_stands w (record { sound = sound-start limits; lasts = lasting-start limits }) 0 (lasting-start limits).first in
    if_each (λ d. d ≡ root_cwd) (λ d. d.dead ≡ false → IsStanding w (mount_of d.place)) (λ d e _. subst (λ x. IsStanding w (mount_of x.place)) (sym e) root)
    (get (root_cwds limits.callers) c) (each_root limits limits.callers c)

pub all_start : (limits : Limits) → AllStand (start_world limits)
all_start limits = record { opens = standing_start limits; cwds = cwd_at_start limits }

pub all_needed : (w : World) (c : ℕ) (call : Call) (x : Inner) → row w c call ≡ Wants x → IsSound w → IsLasting w → AllStand w → AllStand (effect w c x)
all_needed w c call x needs s l a = all-needed w (record { sound = s; lasts = l }) a c call x needs

pub all_call : (w : World) (c : ℕ) (call : Call) (r : Reply) → IsSound w → IsLasting w → AllStand w → AllStand (after w (entry.Call c call r))
all_call w c call r s l a = all-call w (record { sound = s; lasts = l }) a c r call

pub all_history : (p : Pending) (w : World) (es : List Entry) → IsLegal p w es → IsSound w → IsLasting w → AllStand w → AllStand (replay w es)
all_history p w es legal s l a = kept-history AllStand all-call all-needed p [] w es legal (record { sound = s; lasts = l }) a

pub all_from_start : (limits : Limits) (p : Pending) (es : List Entry) → IsLegal p (start_world limits) es → AllStand (replay (start_world limits) es)
all_from_start limits p es legal = all_history p (start_world limits) es legal (sound-start limits) (lasting-start limits) (all_start limits)

pub history_shown : (limits : Limits) (p : Pending) (es fs : List Entry) (c m u : ℕ) (n : List ℕ) → IsLegal p (start_world limits) (es ++ entry.Inner c (Shadow m u n) ∷ fs)
    → ShowsAsBefore (replay (start_world limits) es) (replay (start_world limits) (es ++ entry.Inner c (Shadow m u n) ∷ [])) m
history_shown limits p es fs c m u n legal =
    let x : Inner = Shadow m u n in
    let w : World = replay (start_world limits) es in
    let q : Pending = pending_before p (entry.Inner c x ∷ fs) in
    let before : IsLegal q (start_world limits) es = legal-before p (start_world limits) es (entry.Inner c x ∷ fs) legal in
    let next : IsNext w c x = next_is w c (next_call p c fs) x (legal-after p (start_world limits) es (entry.Inner c x ∷ fs) legal).0 in
    subst (λ (v : World). ShowsAsBefore w v m) (sym (replay-joined (start_world limits) es (entry.Inner c x ∷ [])))
    (needed_shown w c m u next.call n (sound_from_start limits q es before) (lasting_from_start limits q es before) (apart_from_start limits q es before) (standing_from_start limits q es before) next.needs)
