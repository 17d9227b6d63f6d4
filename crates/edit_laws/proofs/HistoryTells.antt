-- The edits of every legal history tell what it does.
use Rattle.std.proofs.Common.{◌≡◌, ℕ, ◌⊎◌, inl, inr, Bool, true, false, ◌==◌, List, [], ◌∷◌, ◌++◌, refl, ap, sym, ◌∙◌, subst}
use Rattle.std.specs.Prelude.{Option, Some, None, MatchBool}
use Rattle.std.specs.FinMap.{get}
use Rattle.std.specs.List.{list_any}
use Rattle.vfs_tree.specs.Layers.{same_place, depth, stores}
use Rattle.vfs_tree.specs.Mounts.{has_references, is_covered}
use Rattle.vfs_tree.specs.Sound.{IsSound}
use Rattle.vfs_tree.specs.Start.{start_world}
use Rattle.vfs_tree.specs.Views.{facts_of}
use Rattle.vfs_tree.specs.declared.errno.Errno.{Errno}
use Rattle.vfs_tree.specs.declared.limits.Limits.{Limits}
use Rattle.vfs_tree.specs.declared.walk.Found.{Found}
use Rattle.vfs_tree.specs.declared.walk.Step.TheVariants.{Go, Refuse, Wants}
use Rattle.vfs_tree.specs.declared.world.World.{World}
use Rattle.call_model.specs.Apply.{Applied, Finished, Needs, settle, apply}
use Rattle.call_model.specs.Checks.{Outcome, mount_at, dir_at}
use Rattle.call_model.specs.Legal.{Pending, MayLackMemory, IsRight, IsLegal, IsLegalFrom, after, doomers_after, doomers_in, is_no_memory, next_call, replay, world_after}
use Rattle.call_model.specs.MountRows as rows
use Rattle.call_model.specs.NameEdits.{edited_by, edits, edits_of, is_fail}
use Rattle.call_model.specs.Refs.{first_in}
use Rattle.call_model.specs.Rows.{first_found, second_found, first_way, second_way, decided, row}
use Rattle.call_model.specs.declared.call.Call.{Call}
use Rattle.call_model.specs.declared.call.Call.TheVariants as call
use Rattle.call_model.specs.declared.entry.Entry.{Entry}
use Rattle.call_model.specs.declared.entry.Entry.TheVariants as entry
use Rattle.call_model.specs.declared.entry.Inner.{Inner}
use Rattle.call_model.specs.declared.entry.Inner.TheVariants.{Shadow, CopyUp, Detach, Doom}
use Rattle.call_model.specs.declared.entry.Ref.{Ref}
use Rattle.call_model.specs.declared.reply.Reply.{Reply}
use Rattle.call_model.specs.declared.reply.Reply.TheVariants as reply
use Rattle.call_model.proofs.HistoryLaws.{replay-append}
use Rattle.call_laws.specs.Fitting.{MayNeed, Fits}
use Rattle.call_laws.specs.Lasting.{IsLasting}
use Rattle.call_laws.specs.Prefixes.{pending_before}
use Rattle.call_laws.proofs.MountParts.{done_so}
use Rattle.call_laws.proofs.NamedLaws.{no_way}
use Rattle.call_laws.proofs.Parts.{Keeps, found_so, needed, unless}
use Rattle.call_laws.proofs.PlaceLaws.{well_at, lasting-start}
use Rattle.call_laws.proofs.PrefixLaws.{legal-before, legal-after}
use Rattle.call_laws.proofs.RowLaws.{row_fits}
use Rattle.call_laws.proofs.SoundLaws.{sound-start}
use Rattle.call_laws.proofs.SoundRows.{AnyNeed}
use Rattle.call_laws.proofs.WalkLaws.{FoundWell}
use Rattle.call_laws.proofs.Whole.{IsWhole}
use Rattle.call_laws.proofs.WorldLaws.{whole-call, next_is, whole-entry, whole-history}
use Rattle.model_laws.proofs.Leaving.{past, in-row}
use Rattle.edit_laws.specs.Telling.{Tells, AllTell}
use Rattle.edit_laws.proofs.AddLaws.{null_tells, union_tells}
use Rattle.edit_laws.proofs.FoldLaws.{told_history, told_none, quiet_tells, chdir_tells, failed_tells, doom_tells, detach_tells, umount_tells, force_tells}
use Rattle.edit_laws.proofs.MemLaws.{mem_tells}
use Rattle.edit_laws.proofs.Answering.{told}
use Rattle.edit_laws.proofs.DropTells.{unlink_shows, rmdir_shows, undelete_shows}
use Rattle.edit_laws.proofs.MadeTells.{mkdir_shows, symlink_shows, open_file_shows, shadow_tells, copy_tells}
use Rattle.edit_laws.proofs.MoveTells.{link_shows, rename_shows}

-- ---- the replies of mounts and unmounts

abbrev IsDone : World × Reply → Type 0
IsDone x = x.1 ≡ reply.Done

abbrev reply_or : Reply → Applied → Reply
reply_or r (Finished w s) = s
reply_or r (Needs x) = r

abbrev failed : Applied → Bool
failed (Finished v r) = is_fail r
failed (Needs x) = true

done_reply : (w new : World) (r : Reply) → is_fail r ≡ false → (o : Outcome) → Keeps IsDone AnyNeed o → settle w o ≡ Finished new r → r ≡ reply.Done
done_reply w new r ok (Go x) k is = sym (ap (reply_or r) is) ∙ k.holds
done_reply w new r ok (Refuse e) k is = no_way (sym ok ∙ sym (ap failed is))
done_reply w new r ok (Wants x) k is = no_way (sym ok ∙ sym (ap failed is))

mem_done : (w : World) (a : Found) → Keeps IsDone AnyNeed (rows.mount_mem w a)
mem_done w a = past (dir_at w a) (λ on. past (rows.check_mounts w) (λ _. found_so refl))

null_done : (w : World) (a b : Found) → Keeps IsDone AnyNeed (rows.mount_null w a b)
null_done w a b =
    past (dir_at w a) (λ layer.
    past (dir_at w b) (λ on.
    unless (same_place layer on) _ (λ _. unless (depth (facts_of w) layer == rows.most_depth) _ (λ _. past (rows.check_mounts w) (λ _. found_so refl)))))

union_done : (w : World) (a b : Found) → Keeps IsDone AnyNeed (rows.mount_union w a b)
union_done w a b =
    past (dir_at w a) (λ up.
    past (dir_at w b) (λ on.
    past (rows.upper_of up) (λ upper.
    unless (list_any (λ s. s == upper.store) (stores (facts_of w) on)) _ (λ _.
    unless (depth (facts_of w) on == rows.most_depth) _ (λ _. past (rows.check_mounts w) (λ _. found_so refl))))))

umount_done : (w : World) (a : Found) → Keeps IsDone AnyNeed (rows.umount w a)
umount_done w a = past (mount_at w a) (λ m. unless (m == 0) _ (λ _. unless (has_references w m) _ (λ _. found_so refl)))

next_done : (w : World) (c m : ℕ) (o : Option Ref) → Keeps IsDone AnyNeed (rows.doom_next w c m o)
next_done w c m (Some at) = needed tt
next_done w c m None = found_so refl

force_done : (w : World) (c : ℕ) (a : Found) (o : Option ℕ) → Keeps IsDone AnyNeed (rows.umount_by w c a o)
force_done w c a (Some m) = next_done w c m (first_in w m)
force_done w c a None = past (mount_at w a) (λ m. unless (m == 0) _ (λ _. unless (is_covered w m) _ (λ _. needed tt)))

-- ---- calls

module _ (w new : World) (c : ℕ) (r : Reply) (h : IsWhole w) (ok : is_fail r ≡ false) where
  well_first : (x : Call) → FoundWell (facts_of w) (first_found w c x)
  well_first x = well_at w h.sound h.lasts c (first_way x)

  well_second : (x : Call) → FoundWell (facts_of w) (second_found w c x)
  well_second x = well_at w h.sound h.lasts c (second_way x)

  by_done : (x : Call) → Keeps IsDone AnyNeed (decided w c x (first_found w c x) (second_found w c x)) → (apply w c x ≡ Finished new reply.Done → Tells w (entry.Call c x reply.Done)) → apply w c x ≡ Finished new r → Tells w (entry.Call c x r)
  by_done x k tells is =
      let done : r ≡ reply.Done = done_reply w new r ok (row w c x) (in-row IsDone w c x k) is in
      subst (λ s. Tells w (entry.Call c x s)) (sym done) (tells (is ∙ ap (Finished new) done))

  done_tells : (x : Call) → apply w c x ≡ Finished new r → Tells w (entry.Call c x r)
  done_tells (call.Mkdir p) is = let x = call.Mkdir p in told w new c x r ok (mkdir_shows w (first_found w c x) h (well_first x)) is
  done_tells (call.Rmdir p) is = let x = call.Rmdir p in told w new c x r ok (rmdir_shows w (first_found w c x) h (well_first x)) is
  done_tells (call.Open p f) is = let x = call.Open p f in told w new c x r ok (open_file_shows w c f (first_found w c x) h (well_first x)) is
  done_tells (call.Close d) is = quiet_tells w c (call.Close d) r tt
  done_tells (call.Read d n) is = quiet_tells w c (call.Read d n) r tt
  done_tells (call.Pread d n o) is = quiet_tells w c (call.Pread d n o) r tt
  done_tells (call.Write d bytes) is = quiet_tells w c (call.Write d bytes) r tt
  done_tells (call.Pwrite d o bytes) is = quiet_tells w c (call.Pwrite d o bytes) r tt
  done_tells (call.Lseek d x i) is = quiet_tells w c (call.Lseek d x i) r tt
  done_tells (call.Truncate p n) is = quiet_tells w c (call.Truncate p n) r tt
  done_tells (call.Ftruncate d n) is = quiet_tells w c (call.Ftruncate d n) r tt
  done_tells (call.Stat p) is = quiet_tells w c (call.Stat p) r tt
  done_tells (call.Lstat p) is = quiet_tells w c (call.Lstat p) r tt
  done_tells (call.Fstat d) is = quiet_tells w c (call.Fstat d) r tt
  done_tells (call.Readdir d) is = quiet_tells w c (call.Readdir d) r tt
  done_tells (call.Unlink p) is = let x = call.Unlink p in told w new c x r ok (unlink_shows w (first_found w c x) h (well_first x)) is
  done_tells (call.Rename p q) is = let x = call.Rename p q in told w new c x r ok (rename_shows w (first_found w c x) (second_found w c x) h (well_first x) (well_second x)) is
  done_tells (call.Link p q) is = let x = call.Link p q in told w new c x r ok (link_shows w (first_found w c x) (second_found w c x) h (well_first x) (well_second x)) is
  done_tells (call.Symlink t p) is = let x = call.Symlink t p in told w new c x r ok (symlink_shows w t (first_found w c x) h (well_first x)) is
  done_tells (call.Readlink p) is = quiet_tells w c (call.Readlink p) r tt
  done_tells (call.Undelete p) is = let x = call.Undelete p in told w new c x r ok (undelete_shows w (first_found w c x) h (well_first x)) is
  done_tells (call.Chdir p) is = chdir_tells w c p r
  done_tells (call.Fchdir d) is = quiet_tells w c (call.Fchdir d) r tt
  done_tells (call.Statfs p) is = quiet_tells w c (call.Statfs p) r tt
  done_tells (call.MountMem p) is = let x = call.MountMem p in by_done x (mem_done w (first_found w c x)) (mem_tells w new c p h.sound h.lasts) is
  done_tells (call.MountNull t p) is = let x = call.MountNull t p in by_done x (null_done w (first_found w c x) (second_found w c x)) (null_tells w new c t p h.sound h.lasts) is
  done_tells (call.MountUnion u p) is = let x = call.MountUnion u p in by_done x (union_done w (first_found w c x) (second_found w c x)) (union_tells w new c u p h.sound h.lasts) is
  done_tells (call.Umount p) is = let x = call.Umount p in by_done x (umount_done w (first_found w c x)) (umount_tells w new c p h.sound h.lasts) is
  done_tells (call.UmountForce p) is = let x = call.UmountForce p in by_done x (force_done w c (first_found w c x) (get w.leaving c)) (force_tells w new c p h.sound h.lasts) is
  done_tells (call.Revoke p) is = quiet_tells w c (call.Revoke p) r tt

record Failed (r : Reply) : Type 0 where
  pub error : Errno
  pub is : r ≡ reply.Fail error

fail_or : (r : Reply) → Failed r ⊎ (is_fail r ≡ false)
fail_or (reply.Fail e) = inl (record { error = e; is = refl })
fail_or _ = inr refl

module _ (w : World) (ds : List ℕ) (c : ℕ) (x : Call) (h : IsWhole w) where
  abbrev next : World
  next = world_after w (apply w c x)

  abbrev May : Reply → Type 0
  May r = MatchBool (is_no_memory r) (MayLackMemory w ds c) (apply w c x ≡ Finished next r)

  fail_tells : (e : Errno) → May (reply.Fail e) → Tells w (entry.Call c x (reply.Fail e))
  fail_tells e may = by (is_no_memory (reply.Fail e)) refl may
    where
      by : (b : Bool) → is_no_memory (reply.Fail e) ≡ b → MatchBool b (MayLackMemory w ds c) (apply w c x ≡ Finished next (reply.Fail e)) → Tells w (entry.Call c x (reply.Fail e))
      by true is m = failed_tells w w ds c x e (subst (λ b. MatchBool b (MayLackMemory w ds c × (w ≡ w)) (apply w c x ≡ Finished w (reply.Fail e))) (sym is) (m, refl))
      by false is m = failed_tells w next ds c x e (subst (λ b. MatchBool b (MayLackMemory w ds c × (next ≡ w)) (apply w c x ≡ Finished next (reply.Fail e))) (sym is) m)

  call_tells : (r : Reply) → May r → Tells w (entry.Call c x r)
  call_tells r may = elim (fail_or r) as (λ _. Tells w (entry.Call c x r)) [
    | inl f ↦ subst (λ s. Tells w (entry.Call c x s)) (sym f.is) (fail_tells f.error (subst May f.is may))
    | inr ok ↦ done_tells w next c r h ok x (subst (λ b. MatchBool b (MayLackMemory w ds c) (apply w c x ≡ Finished next r)) (done_so r ok) may)
  ]

-- ---- inner entries

needed_tells : (w : World) (c : ℕ) (call : Call) (x : Inner) → row w c call ≡ Wants x → IsWhole w → Tells w (entry.Inner c x)
needed_tells w c call (Shadow m u n) needs h = shadow_tells w c m u n call h.sound h.lasts needs
needed_tells w c call (CopyUp m u n) needs h = copy_tells w c m u n call h.sound h.lasts needs
needed_tells w c call (Detach m) needs h = let may : MayNeed w c call (Detach m) = subst (Fits w c call) needs (row_fits w c call) in detach_tells w c m h.sound h.lasts may.0
needed_tells w c call (Doom at) needs h = doom_tells w c at

-- ---- histories

right_tells : (p : Pending) (ds : List ℕ) (w : World) (e : Entry) (es : List Entry) → IsRight p ds w e es → IsWhole w → Tells w e
right_tells p ds w (entry.Call c x r) es right h = call_tells w ds c x h r right
right_tells p ds w (entry.Inner c x) es right h = let next = next_is w c (next_call p c es) x right in needed_tells w c next.call x next.needs h

pub right_whole : (p : Pending) (ds : List ℕ) (w : World) (e : Entry) (es : List Entry) → IsRight p ds w e es → IsWhole w → IsWhole (after w e)
right_whole p ds w (entry.Call c x r) es right h = whole-call w c r h x
right_whole p ds w (entry.Inner c x) es right h = whole-entry w c (next_call p c es) x right h

all_tell : (p : Pending) (ds : List ℕ) (w : World) (es : List Entry) → IsLegalFrom p ds w es → IsWhole w → AllTell w es
all_tell p ds w [] legal h = tt
all_tell p ds w (e ∷ es) legal h = (right_tells p ds w e es legal.0 h, all_tell p (doomers_after ds e) (after w e) es legal.1 (right_whole p ds w e es legal.0 h))

pub history_tells : (p : Pending) (w : World) (es : List Entry) → IsLegal p w es → IsSound w → IsLasting w → facts_of (replay w es) ≡ edited_by (facts_of w) (edits w es)
history_tells p w es legal s l = told_history w es (all_tell p [] w es legal (record { sound = s; lasts = l }))

pub start_tells : (limits : Limits) (p : Pending) (es : List Entry) → IsLegal p (start_world limits) es → facts_of (replay (start_world limits) es) ≡ edited_by (facts_of (start_world limits)) (edits (start_world limits) es)
start_tells limits p es legal = history_tells p (start_world limits) es legal (sound-start limits) (lasting-start limits)

pub quiet_end : (p : Pending) (w : World) (es : List Entry) (e : Entry) → IsLegal p w (es ++ e ∷ []) → IsSound w → IsLasting w → edits_of (replay w es) e ≡ [] → facts_of (replay w (es ++ e ∷ [])) ≡ facts_of (replay w es)
quiet_end p w es e legal s l none =
    let whole = whole-history (pending_before p (e ∷ [])) [] w es (legal-before p w es (e ∷ []) legal) (record { sound = s; lasts = l }) in
    let rest = legal-after p w es (e ∷ []) legal in
    ap facts_of (replay-append w es e) ∙ told_none (replay w es) e (right_tells p (doomers_in [] es) (replay w es) e [] rest.0 whole) none

pub quiet_from_start : (limits : Limits) (p : Pending) (es : List Entry) (e : Entry) → IsLegal p (start_world limits) (es ++ e ∷ []) → edits_of (replay (start_world limits) es) e ≡ [] → facts_of (replay (start_world limits) (es ++ e ∷ [])) ≡ facts_of (replay (start_world limits) es)
quiet_from_start limits p es e legal none = quiet_end p (start_world limits) es e legal (sound-start limits) (lasting-start limits) none
