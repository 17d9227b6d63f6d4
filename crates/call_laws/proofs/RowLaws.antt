-- What the rows of the calls leave and need.
use Rattle.std.proofs.Common.{◌≡◌, ℕ, ap, ◌∙◌}
use Rattle.std.specs.Prelude.{Some}
use Rattle.std.specs.FinMap.{get}
use Rattle.vfs_tree.specs.Steps.{◌>>◌}
use Rattle.vfs_tree.specs.Views.{facts_of}
use Rattle.vfs_tree.specs.declared.walk.Found.{Found}
use Rattle.vfs_tree.specs.declared.walk.Step.TheVariants.{Go, Refuse, Wants}
use Rattle.vfs_tree.specs.declared.world.World.{World}
use Rattle.call_model.specs.Checks.{Doing, Outcome}
use Rattle.call_model.specs.MountRows.{doom_next}
use Rattle.call_model.specs.Refs.{first_in}
use Rattle.call_model.specs.Rows.{check_way, first_way, second_way, first_found, second_found, decided, row}
use Rattle.call_model.specs.MountRows.{umount_by}
use Rattle.call_model.specs.declared.call.Call.{Call}
use Rattle.call_model.specs.declared.call.Call.TheVariants as call
use Rattle.call_laws.specs.Fitting.{Fits}
use Rattle.call_laws.specs.Leaving.{IsLeaver}
use Rattle.call_laws.proofs.NeedLaws.{FreeFound, free-found}
use Rattle.call_laws.proofs.Parts.{Keeps, MakesNode, Well, weaker, then, keeps-check_way}
use Rattle.call_laws.proofs.PlaceLaws.{well_at}
use Rattle.call_laws.proofs.NameParts.{Ends, keeps-mkdir, keeps-rmdir, keeps-unlink, keeps-link, keeps-symlink, keeps-readlink, keeps-undelete, keeps-rename, keeps-stat, keeps-chdir, keeps-statfs}
use Rattle.call_laws.proofs.DataParts.{keeps-open_file, keeps-close, keeps-read, keeps-pread, keeps-write, keeps-pwrite, keeps-lseek, keeps-truncate, keeps-ftruncate, keeps-fstat, keeps-readdir, keeps-fchdir}
use Rattle.call_laws.proofs.MountParts.{Answered, FreeInner, Left, Needed, may_make, left_plain, keeps-mount_mem, keeps-mount_null, keeps-mount_union, keeps-umount, keeps-umount_force, keeps-revoke}

-- what a call leaves and what it needs are as they may be
abbrev Kept : World → ℕ → Call → Outcome → Type 0
Kept w c call o = Keeps (Left w c call) (Needed w c call) o

-- a call that isn't a forced unmount leaves no mount
usual : (w : World) (c : ℕ) (call : Call) → (IsLeaver (Some call) → ⊥) → (o : Outcome) → Keeps (Ends w) (MakesNode w) o → Kept w c call o
usual w c call isnt o h = weaker o (left_plain w c call isnt) (may_make w c call) h

kept_decided : (w : World) (c : ℕ) (call : Call) → check_way (first_way call) ≡ Go tt → (a b : Found) → FreeFound (facts_of w) a → FreeFound (facts_of w) b → Well w a → Kept w c call (decided w c call a b)
kept_decided w c (call.Mkdir p) lawful a b fa fb wa = usual w c (call.Mkdir p) (λ x. x) _ (keeps-mkdir w a fa)
kept_decided w c (call.Rmdir p) lawful a b fa fb wa = usual w c (call.Rmdir p) (λ x. x) _ (keeps-rmdir w a fa)
kept_decided w c (call.Open p f) lawful a b fa fb wa = usual w c (call.Open p f) (λ x. x) _ (keeps-open_file w c f a fa wa)
kept_decided w c (call.Close d) lawful a b fa fb wa = usual w c (call.Close d) (λ x. x) _ (keeps-close w c d)
kept_decided w c (call.Read d n) lawful a b fa fb wa = usual w c (call.Read d n) (λ x. x) _ (keeps-read w c d n)
kept_decided w c (call.Pread d n o) lawful a b fa fb wa = usual w c (call.Pread d n o) (λ x. x) _ (keeps-pread w c d n o)
kept_decided w c (call.Write d bytes) lawful a b fa fb wa = usual w c (call.Write d bytes) (λ x. x) _ (keeps-write w c d bytes)
kept_decided w c (call.Pwrite d o bytes) lawful a b fa fb wa = usual w c (call.Pwrite d o bytes) (λ x. x) _ (keeps-pwrite w c d o bytes)
kept_decided w c (call.Lseek d h i) lawful a b fa fb wa = usual w c (call.Lseek d h i) (λ x. x) _ (keeps-lseek w c d h i)
kept_decided w c (call.Truncate p n) lawful a b fa fb wa = usual w c (call.Truncate p n) (λ x. x) _ (keeps-truncate w a n fa wa)
kept_decided w c (call.Ftruncate d n) lawful a b fa fb wa = usual w c (call.Ftruncate d n) (λ x. x) _ (keeps-ftruncate w c d n)
kept_decided w c (call.Stat p) lawful a b fa fb wa = usual w c (call.Stat p) (λ x. x) _ (keeps-stat w a fa)
kept_decided w c (call.Lstat p) lawful a b fa fb wa = usual w c (call.Lstat p) (λ x. x) _ (keeps-stat w a fa)
kept_decided w c (call.Fstat d) lawful a b fa fb wa = usual w c (call.Fstat d) (λ x. x) _ (keeps-fstat w c d)
kept_decided w c (call.Readdir d) lawful a b fa fb wa = usual w c (call.Readdir d) (λ x. x) _ (keeps-readdir w c d)
kept_decided w c (call.Unlink p) lawful a b fa fb wa = usual w c (call.Unlink p) (λ x. x) _ (keeps-unlink w a fa)
kept_decided w c (call.Rename p q) lawful a b fa fb wa = usual w c (call.Rename p q) (λ x. x) _ (keeps-rename w a b fa fb wa)
kept_decided w c (call.Link p q) lawful a b fa fb wa = usual w c (call.Link p q) (λ x. x) _ (keeps-link w a b fa fb wa)
kept_decided w c (call.Symlink t p) lawful a b fa fb wa = usual w c (call.Symlink t p) (λ x. x) _ (keeps-symlink w t a fa)
kept_decided w c (call.Readlink p) lawful a b fa fb wa = usual w c (call.Readlink p) (λ x. x) _ (keeps-readlink w a fa)
kept_decided w c (call.Undelete p) lawful a b fa fb wa = usual w c (call.Undelete p) (λ x. x) _ (keeps-undelete w a fa)
kept_decided w c (call.Chdir p) lawful a b fa fb wa = usual w c (call.Chdir p) (λ x. x) _ (keeps-chdir w c a fa)
kept_decided w c (call.Fchdir d) lawful a b fa fb wa = usual w c (call.Fchdir d) (λ x. x) _ (keeps-fchdir w c d)
kept_decided w c (call.Statfs p) lawful a b fa fb wa = usual w c (call.Statfs p) (λ x. x) _ (keeps-statfs w a fa)
kept_decided w c (call.MountMem p) lawful a b fa fb wa = usual w c (call.MountMem p) (λ x. x) _ (keeps-mount_mem w a fa)
kept_decided w c (call.MountNull t p) lawful a b fa fb wa = usual w c (call.MountNull t p) (λ x. x) _ (keeps-mount_null w a b fa fb)
kept_decided w c (call.MountUnion u p) lawful a b fa fb wa = usual w c (call.MountUnion u p) (λ x. x) _ (keeps-mount_union w a b fa fb)
kept_decided w c (call.Umount p) lawful a b fa fb wa = usual w c (call.Umount p) (λ x. x) _ (keeps-umount w a fa)
kept_decided w c (call.UmountForce p) lawful a b fa fb wa = keeps-umount_force w c p a fa wa lawful
kept_decided w c (call.Revoke p) lawful a b fa fb wa = keeps-revoke w c p a fa

-- both paths are paths
kept_ways : (w : World) (c : ℕ) (call : Call) → Keeps (λ (u : Unit {0}). check_way (first_way call) ≡ Go tt) (Needed w c call) (check_way (first_way call) >> check_way (second_way call))
kept_ways w c call =
    then (check_way (first_way call)) (keeps-check_way (Needed w c call) (first_way call)) (λ _ lawful.
    weaker (check_way (second_way call)) (λ _ _. lawful) (λ x h. h) (keeps-check_way (Needed w c call) (second_way call)))

fits : (w : World) (c : ℕ) (call : Call) (o : Outcome) → Kept w c call o → Fits w c call o
fits w c call (Go x) h = h.holds.0
fits w c call (Refuse e) h = tt
fits w c call (Wants x) h = h.holds.0

row_kept : (w : World) (c : ℕ) (call : Call) → Kept w c call (row w c call)
row_kept w c call =
    (then (check_way (first_way call) >> check_way (second_way call)) (kept_ways w c call) (λ _ lawful. kept_decided w c call lawful (first_found w c call) (second_found w c call) (free-found w c (first_way call)) (free-found w c (second_way call)) (λ h. well_at w h.sound h.lasts c (first_way call))))

-- what a call leaves, and what it may need
pub row_fits : (w : World) (c : ℕ) (call : Call) → Fits w c call (row w c call)
row_fits w c call = fits w c call (row w c call) (row_kept w c call)

-- what a call that is answered leaves dead, and answers
pub row_answered : (w : World) (c : ℕ) (call : Call) → Keeps (λ x. Answered w x.0 x.1) (λ x. Unit {0}) (row w c call)
row_answered w c call = weaker (row w c call) (λ x h. h.1) (λ x h. tt) (row_kept w c call)

-- the shadow directory that a call needs is made where the upper layer has nothing
pub row_free : (w : World) (c : ℕ) (call : Call) → Keeps (λ x. Unit {0}) (FreeInner w) (row w c call)
row_free w c call = weaker (row w c call) (λ x h. tt) (λ x h. h.1) (row_kept w c call)

-- a caller that is leaving a mount goes on with it, whatever its path finds
pub leaver_row : (w : World) (c : ℕ) (call : Call) (m : ℕ) → get w.leaving c ≡ Some m → IsLeaver (Some call) → row w c call ≡ doom_next w c m (first_in w m)
leaver_row w c (call.UmountForce p) m is leaver =
    ap (λ (s : Doing (Unit {0})). (s >> Go tt) >> umount_by w c (first_found w c (call.UmountForce p)) (get w.leaving c)) leaver
    ∙ ap (umount_by w c (first_found w c (call.UmountForce p))) is
leaver_row w c _ m is leaver = absurd leaver
