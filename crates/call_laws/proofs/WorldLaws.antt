-- Every call, and every legal history, leaves a sound world that lasts.
use Rattle.std.proofs.Common.{◌≡◌, ℕ, List, [], ◌∷◌, ap}
use Rattle.std.specs.Prelude.{Option, Some, None}
use Rattle.vfs_tree.specs.Sound.{IsSound}
use Rattle.vfs_tree.specs.Start.{start_world}
use Rattle.vfs_tree.specs.Views.{facts_of}
use Rattle.vfs_tree.specs.declared.limits.Limits.{Limits}
use Rattle.vfs_tree.specs.declared.walk.Step.TheVariants.{Go, Refuse, Wants}
use Rattle.vfs_tree.specs.declared.world.World.{World}
use Rattle.call_model.specs.Apply.{Applied, Finished, Needs, settle}
use Rattle.call_model.specs.Checks.{Outcome}
use Rattle.call_model.specs.Effects.{effect}
use Rattle.call_model.specs.Legal.{Pending, IsNeeded, IsLegal, IsLegalFrom, doomers_after, next_call, after, replay}
use Rattle.call_model.specs.Rows.{first_way, second_way, first_found, second_found, decided, row}
use Rattle.call_model.specs.declared.call.Call.{Call}
use Rattle.call_model.specs.declared.call.Call.TheVariants as call
use Rattle.call_model.specs.declared.entry.Entry.{Entry}
use Rattle.call_model.specs.declared.entry.Entry.TheVariants as entry
use Rattle.call_model.specs.declared.entry.Inner.{Inner}
use Rattle.call_model.specs.declared.reply.Reply.{Reply}
use Rattle.call_laws.specs.Lasting.{IsLasting}
use Rattle.call_laws.proofs.MountLaws.{whole-mount_mem, whole-mount_null, whole-mount_union}
use Rattle.call_laws.proofs.NameLaws.{whole-mkdir, whole-symlink, whole-link, whole-unlink, whole-rmdir, whole-undelete, whole-open_file, whole-chdir}
use Rattle.call_laws.proofs.NeededLaws.{whole-needed}
use Rattle.call_laws.proofs.NeedLaws.{FreeFound, free-found}
use Rattle.call_laws.proofs.Parts.{Keeps, Well, MakesNode}
use Rattle.call_laws.proofs.PlaceLaws.{well_at, lasting-start}
use Rattle.call_laws.proofs.RenameLaws.{whole-rename}
use Rattle.call_laws.proofs.SoundLaws.{sound-start}
use Rattle.call_laws.proofs.SoundRows.{LeavesSo, steady-whole, so-decide, whole-by, whole-quiet}
use Rattle.call_laws.proofs.UmountLaws.{whole-umount, whole-umount_force}
use Rattle.call_laws.proofs.Whole.{IsWhole}

-- ---- calls

module _ (w : World) (c : ℕ) (r : Reply) (h : IsWhole w) where
  free_first : (x : Call) → FreeFound (facts_of w) (first_found w c x)
  free_first x = free-found w c (first_way x)

  free_second : (x : Call) → FreeFound (facts_of w) (second_found w c x)
  free_second x = free-found w c (second_way x)

  well_first : (x : Call) → Well w (first_found w c x)
  well_first x = λ h. well_at w h.sound h.lasts c (first_way x)

  well_second : (x : Call) → Well w (second_found w c x)
  well_second x = λ h. well_at w h.sound h.lasts c (second_way x)

  by_row : (x : Call) → Keeps (LeavesSo IsWhole) (MakesNode w) (decided w c x (first_found w c x) (second_found w c x)) → IsWhole (after w (entry.Call c x r))
  by_row x k = whole-by w c x r h k

  -- a call leaves a sound world that lasts
  pub whole-call : (x : Call) → IsWhole (after w (entry.Call c x r))
  whole-call (call.Mkdir p) = let x = call.Mkdir p in by_row x (whole-mkdir w (first_found w c x) (free_first x) (well_first x) h)
  whole-call (call.Rmdir p) = let x = call.Rmdir p in by_row x (whole-rmdir w (first_found w c x) (free_first x) (well_first x) h)
  whole-call (call.Open p f) = let x = call.Open p f in by_row x (whole-open_file w c f (first_found w c x) (free_first x) (well_first x) h)
  whole-call (call.Close d) = whole-quiet w c (call.Close d) r tt h
  whole-call (call.Read d n) = whole-quiet w c (call.Read d n) r tt h
  whole-call (call.Pread d n o) = whole-quiet w c (call.Pread d n o) r tt h
  whole-call (call.Write d bytes) = whole-quiet w c (call.Write d bytes) r tt h
  whole-call (call.Pwrite d o bytes) = whole-quiet w c (call.Pwrite d o bytes) r tt h
  whole-call (call.Lseek d x i) = whole-quiet w c (call.Lseek d x i) r tt h
  whole-call (call.Truncate p n) = whole-quiet w c (call.Truncate p n) r tt h
  whole-call (call.Ftruncate d n) = whole-quiet w c (call.Ftruncate d n) r tt h
  whole-call (call.Stat p) = whole-quiet w c (call.Stat p) r tt h
  whole-call (call.Lstat p) = whole-quiet w c (call.Lstat p) r tt h
  whole-call (call.Fstat d) = whole-quiet w c (call.Fstat d) r tt h
  whole-call (call.Readdir d) = whole-quiet w c (call.Readdir d) r tt h
  whole-call (call.Unlink p) = let x = call.Unlink p in by_row x (whole-unlink w (first_found w c x) (free_first x) (well_first x) h)
  whole-call (call.Rename p q) = let x = call.Rename p q in by_row x (whole-rename w (first_found w c x) (second_found w c x) (free_first x) (free_second x) (well_first x) (well_second x) h)
  whole-call (call.Link p q) = let x = call.Link p q in by_row x (whole-link w (first_found w c x) (second_found w c x) (free_first x) (free_second x) (well_first x) (well_second x) h)
  whole-call (call.Symlink t p) = let x = call.Symlink t p in by_row x (whole-symlink w t (first_found w c x) (free_first x) (well_first x) h)
  whole-call (call.Readlink p) = whole-quiet w c (call.Readlink p) r tt h
  whole-call (call.Undelete p) = let x = call.Undelete p in by_row x (whole-undelete w (first_found w c x) (free_first x) (well_first x) h)
  whole-call (call.Chdir p) = let x = call.Chdir p in by_row x (whole-chdir w c (first_found w c x) (free_first x) (well_first x) h)
  whole-call (call.Fchdir d) = whole-quiet w c (call.Fchdir d) r tt h
  whole-call (call.Statfs p) = whole-quiet w c (call.Statfs p) r tt h
  whole-call (call.MountMem p) = let x = call.MountMem p in by_row x (whole-mount_mem w (first_found w c x) (free_first x) (well_first x) h)
  whole-call (call.MountNull t p) = let x = call.MountNull t p in by_row x (whole-mount_null w (first_found w c x) (second_found w c x) (free_first x) (free_second x) (well_first x) (well_second x) h)
  whole-call (call.MountUnion u p) = let x = call.MountUnion u p in by_row x (whole-mount_union w (first_found w c x) (second_found w c x) (free_first x) (free_second x) (well_first x) (well_second x) h)
  whole-call (call.Umount p) = let x = call.Umount p in by_row x (whole-umount w (first_found w c x) (free_first x) h)
  whole-call (call.UmountForce p) = let x = call.UmountForce p in so-decide IsWhole steady-whole w c x r h (whole-umount_force w c (first_found w c x) (free_first x) h)
  whole-call (call.Revoke p) = whole-quiet w c (call.Revoke p) r tt h

pub sound_call : (w : World) (c : ℕ) (call : Call) (r : Reply) → IsSound w → IsLasting w → IsSound (after w (entry.Call c call r))
sound_call w c call r s l = (whole-call w c r (record { sound = s; lasts = l }) call).sound

pub lasting_call : (w : World) (c : ℕ) (call : Call) (r : Reply) → IsSound w → IsLasting w → IsLasting (after w (entry.Call c call r))
lasting_call w c call r s l = (whole-call w c r (record { sound = s; lasts = l }) call).lasts

-- ---- histories

abbrev need_or : Applied → Inner → Inner
need_or (Needs x) y = x
need_or (Finished w r) y = y

pub row_needs : (w : World) (o : Outcome) (x : Inner) → settle w o ≡ Needs x → o ≡ Wants x
row_needs w (Go y) x e = absurd cc
row_needs w (Refuse y) x e = absurd cc
row_needs w (Wants y) x e = ap Wants (ap (λ a. need_or a y) e)

-- a call that needs the entry
pub record IsNext (w : World) (c : ℕ) (x : Inner) : Type 0 where
  pub call : Call
  pub needs : row w c call ≡ Wants x

pub next_is : (w : World) (c : ℕ) (o : Option Call) (x : Inner) → IsNeeded w c o x → IsNext w c x
next_is w c (Some call) x needs = record { call = call; needs = row_needs w (row w c call) x needs }
next_is w c None x needs = absurd needs

pub whole-entry : (w : World) (c : ℕ) (o : Option Call) (x : Inner) → IsNeeded w c o x → IsWhole w → IsWhole (effect w c x)
whole-entry w c o x needs h = let next = next_is w c o x needs in whole-needed w c next.call x next.needs h

-- what calls and needed entries keep, histories keep
module _ (A : World → Type 0) (call : (w : World) → IsWhole w → A w → (c : ℕ) (r : Reply) (x : Call) → A (after w (entry.Call c x r)))
    (inner : (w : World) → IsWhole w → A w → (c : ℕ) (x : Call) (i : Inner) → row w c x ≡ Wants i → A (effect w c i)) where
  pub kept-history : (p : Pending) (doomers : List ℕ) (w : World) (es : List Entry) → IsLegalFrom p doomers w es → IsWhole w → A w → A (replay w es)
  kept-history p doomers w [] legal h here = here
  kept-history p doomers w (entry.Call c x r ∷ es) legal h here =
      kept-history p (doomers_after doomers (entry.Call c x r)) (after w (entry.Call c x r)) es legal.1 (whole-call w c r h x) (call w h here c r x)
  kept-history p doomers w (entry.Inner c x ∷ es) legal h here =
      let next = next_is w c (next_call p c es) x legal.0 in
      kept-history p (doomers_after doomers (entry.Inner c x)) (effect w c x) es legal.1 (whole-needed w c next.call x next.needs h) (inner w h here c next.call x next.needs)

-- a legal history leaves a sound world that lasts
pub whole-history : (p : Pending) (doomers : List ℕ) (w : World) (es : List Entry) → IsLegalFrom p doomers w es → IsWhole w → IsWhole (replay w es)
whole-history p doomers w es legal h = kept-history IsWhole (λ w h _ c r x. whole-call w c r h x) (λ w h _ c x i needs. whole-needed w c x i needs h) p doomers w es legal h h

pub sound_history : (p : Pending) (w : World) (es : List Entry) → IsLegal p w es → IsSound w → IsLasting w → IsSound (replay w es)
sound_history p w es legal s l = (whole-history p [] w es legal (record { sound = s; lasts = l })).sound

pub lasting_history : (p : Pending) (w : World) (es : List Entry) → IsLegal p w es → IsSound w → IsLasting w → IsLasting (replay w es)
lasting_history p w es legal s l = (whole-history p [] w es legal (record { sound = s; lasts = l })).lasts

pub sound_from_start : (limits : Limits) (p : Pending) (es : List Entry) → IsLegal p (start_world limits) es → IsSound (replay (start_world limits) es)
sound_from_start limits p es legal = sound_history p (start_world limits) es legal (sound-start limits) (lasting-start limits)

pub lasting_from_start : (limits : Limits) (p : Pending) (es : List Entry) → IsLegal p (start_world limits) es → IsLasting (replay (start_world limits) es)
lasting_from_start limits p es legal = lasting_history p (start_world limits) es legal (sound-start limits) (lasting-start limits)
