-- What calls doom: the first live reference of a mount, or the first live open file of a file.
use Rattle.std.proofs.Common.{◌≡◌, ℕ, ◌⊎◌, inl, inr, true, not, ◌==◌, refl, subst}
use Rattle.std.specs.Prelude.{Option, Some, None}
use Rattle.std.specs.FinMap.{get}
use Rattle.vfs_tree.specs.Layers.{is_file}
use Rattle.vfs_tree.specs.Mounts.{is_covered}
use Rattle.vfs_tree.specs.Place.{Seen}
use Rattle.vfs_tree.specs.Steps.{◌>>◌}
use Rattle.vfs_tree.specs.Views.{facts_of}
use Rattle.vfs_tree.specs.declared.walk.Found.{Found}
use Rattle.vfs_tree.specs.declared.walk.Found.TheVariants as found
use Rattle.vfs_tree.specs.declared.walk.Step.TheVariants.{Wants}
use Rattle.vfs_tree.specs.declared.world.World.{World}
use Rattle.call_model.specs.Checks.{Outcome, is_full, upper_store, place_at, mount_at}
use Rattle.call_model.specs.MountRows as mounts
use Rattle.call_model.specs.Refs.{first_in, first_open}
use Rattle.call_model.specs.Rows.{check_way, first_way, second_way, first_found, second_found, decided, row}
use Rattle.call_model.specs.declared.call.Call.{Call}
use Rattle.call_model.specs.declared.call.Call.TheVariants as call
use Rattle.call_model.specs.declared.entry.Inner.{Inner}
use Rattle.call_model.specs.declared.entry.Inner.TheVariants.{Shadow, CopyUp, Detach, Doom}
use Rattle.call_model.specs.declared.entry.Ref.{Ref}
use Rattle.call_laws.proofs.NeedLaws.{FreeFound, free-found}
use Rattle.call_laws.proofs.Parts.{Keeps, Any, MakesNode, Well, found_so, refused, needed, weaker, then, unless, keeps-check_way}
use Rattle.call_laws.proofs.PlaceLaws.{well_at}
use Rattle.call_laws.proofs.SoundParts.{is_so}
use Rattle.call_laws.proofs.NameParts.{Ends, keeps-mkdir, keeps-rmdir, keeps-unlink, keeps-link, keeps-symlink, keeps-readlink, keeps-undelete, keeps-rename, keeps-stat, keeps-chdir, keeps-statfs}
use Rattle.call_laws.proofs.DataParts.{keeps-open_file, keeps-close, keeps-read, keeps-pread, keeps-write, keeps-pwrite, keeps-lseek, keeps-truncate, keeps-ftruncate, keeps-fstat, keeps-readdir, keeps-fchdir}
use Rattle.call_laws.proofs.MountParts.{keeps-mount_mem, keeps-mount_null, keeps-mount_union, keeps-umount}

-- the first live reference in some mount or in one that stands on it, or the first live open file of some file
abbrev pub IsChosen : World → Ref → Type 0
IsChosen w at = ((m : ℕ) × (first_in w m ≡ Some at)) ⊎ ((p : Seen) × (is_file (facts_of w) p ≡ true) × (first_open w p ≡ Some at))

-- what is doomed is chosen so
abbrev Chooses : World → Inner → Type 0
Chooses w (Shadow m u n) = Unit {0}
Chooses w (CopyUp m u n) = Unit {0}
Chooses w (Detach m) = Unit {0}
Chooses w (Doom at) = IsChosen w at

abbrev Choice : World → Outcome → Type 0
Choice w o = Keeps Any (Chooses w) o

no_doom : (w : World) (x : Inner) → MakesNode w x → Chooses w x
no_doom w (Shadow m u n) h = tt
no_doom w (CopyUp m u n) h = tt
no_doom w (Detach m) h = tt
no_doom w (Doom at) h = absurd h

-- a call that dooms nothing
usual : (w : World) (o : Outcome) → Keeps (Ends w) (MakesNode w) o → Choice w o
usual w o h = weaker o (λ _ _. tt) (no_doom w) h

choose-mount_at : (w : World) (a : Found) → Keeps Any (Chooses w) (mount_at w a)
choose-mount_at w (found.Mount m) = found_so tt
choose-mount_at w (found.Need x) = unless (is_full w (upper_store w x.mount)) _ (λ _. needed tt)
choose-mount_at w _ = refused

choose-place_at : (w : World) (a : Found) → Keeps Any (Chooses w) (place_at w a)
choose-place_at w (found.At p) = found_so tt
choose-place_at w (found.Need x) = unless (is_full w (upper_store w x.mount)) _ (λ _. needed tt)
choose-place_at w _ = refused

choose-doom_next : (w : World) (c m : ℕ) (o : Option Ref) → first_in w m ≡ o → Choice w (mounts.doom_next w c m o)
choose-doom_next w c m (Some at) is = needed (inl (m, is))
choose-doom_next w c m None is = found_so tt

choose-umount_by : (w : World) (c : ℕ) (a : Found) (o : Option ℕ) → Choice w (mounts.umount_by w c a o)
choose-umount_by w c a (Some m) = choose-doom_next w c m (first_in w m) refl
choose-umount_by w c a None = then (mount_at w a) (choose-mount_at w a) (λ m _. unless (m == 0) _ (λ _. unless (is_covered w m) _ (λ _. needed tt)))

choose-revoke_next : (w : World) (p : Seen) → is_file (facts_of w) p ≡ true → (o : Option Ref) → first_open w p ≡ o → Choice w (mounts.revoke_next w o)
choose-revoke_next w p file (Some at) is = needed (inr (p, file, is))
choose-revoke_next w p file None is = found_so tt

choose-revoke : (w : World) (a : Found) → Choice w (mounts.revoke w a)
choose-revoke w a =
    then (place_at w a) (choose-place_at w a) (λ p _.
    unless (not (is_file (facts_of w) p)) _ (λ file.
    choose-revoke_next w p (is_so (is_file (facts_of w) p) file) (first_open w p) refl))

choose-decided : (w : World) (c : ℕ) (x : Call) (a b : Found) → FreeFound (facts_of w) a → FreeFound (facts_of w) b → Well w a → Choice w (decided w c x a b)
choose-decided w c (call.Mkdir p) a b fa fb wa = usual w _ (keeps-mkdir w a fa)
choose-decided w c (call.Rmdir p) a b fa fb wa = usual w _ (keeps-rmdir w a fa)
choose-decided w c (call.Open p f) a b fa fb wa = usual w _ (keeps-open_file w c f a fa wa)
choose-decided w c (call.Close d) a b fa fb wa = usual w _ (keeps-close w c d)
choose-decided w c (call.Read d n) a b fa fb wa = usual w _ (keeps-read w c d n)
choose-decided w c (call.Pread d n o) a b fa fb wa = usual w _ (keeps-pread w c d n o)
choose-decided w c (call.Write d bytes) a b fa fb wa = usual w _ (keeps-write w c d bytes)
choose-decided w c (call.Pwrite d o bytes) a b fa fb wa = usual w _ (keeps-pwrite w c d o bytes)
choose-decided w c (call.Lseek d h i) a b fa fb wa = usual w _ (keeps-lseek w c d h i)
choose-decided w c (call.Truncate p n) a b fa fb wa = usual w _ (keeps-truncate w a n fa wa)
choose-decided w c (call.Ftruncate d n) a b fa fb wa = usual w _ (keeps-ftruncate w c d n)
choose-decided w c (call.Stat p) a b fa fb wa = usual w _ (keeps-stat w a fa)
choose-decided w c (call.Lstat p) a b fa fb wa = usual w _ (keeps-stat w a fa)
choose-decided w c (call.Fstat d) a b fa fb wa = usual w _ (keeps-fstat w c d)
choose-decided w c (call.Readdir d) a b fa fb wa = usual w _ (keeps-readdir w c d)
choose-decided w c (call.Unlink p) a b fa fb wa = usual w _ (keeps-unlink w a fa)
choose-decided w c (call.Rename p q) a b fa fb wa = usual w _ (keeps-rename w a b fa fb wa)
choose-decided w c (call.Link p q) a b fa fb wa = usual w _ (keeps-link w a b fa fb wa)
choose-decided w c (call.Symlink t p) a b fa fb wa = usual w _ (keeps-symlink w t a fa)
choose-decided w c (call.Readlink p) a b fa fb wa = usual w _ (keeps-readlink w a fa)
choose-decided w c (call.Undelete p) a b fa fb wa = usual w _ (keeps-undelete w a fa)
choose-decided w c (call.Chdir p) a b fa fb wa = usual w _ (keeps-chdir w c a fa)
choose-decided w c (call.Fchdir d) a b fa fb wa = usual w _ (keeps-fchdir w c d)
choose-decided w c (call.Statfs p) a b fa fb wa = usual w _ (keeps-statfs w a fa)
choose-decided w c (call.MountMem p) a b fa fb wa = usual w _ (keeps-mount_mem w a fa)
choose-decided w c (call.MountNull t p) a b fa fb wa = usual w _ (keeps-mount_null w a b fa fb)
choose-decided w c (call.MountUnion u p) a b fa fb wa = usual w _ (keeps-mount_union w a b fa fb)
choose-decided w c (call.Umount p) a b fa fb wa = usual w _ (keeps-umount w a fa)
choose-decided w c (call.UmountForce p) a b fa fb wa = choose-umount_by w c a (get w.leaving c)
choose-decided w c (call.Revoke p) a b fa fb wa = choose-revoke w a

choose-ways : (w : World) (x : Call) → Keeps Any (Chooses w) (check_way (first_way x) >> check_way (second_way x))
choose-ways w x =
    then (check_way (first_way x)) (keeps-check_way (Chooses w) (first_way x)) (λ _ _.
    weaker (check_way (second_way x)) (λ _ _. tt) (λ _ h. h) (keeps-check_way (Chooses w) (second_way x)))

pub doomed_chosen : (w : World) (c : ℕ) (x : Call) (at : Ref) → row w c x ≡ Wants (Doom at) → IsChosen w at
doomed_chosen w c x at is = of (subst (λ (o : Outcome). Choice w o) is so)
  where
    so : Choice w (row w c x)
    so =
        then (check_way (first_way x) >> check_way (second_way x)) (choose-ways w x) (λ _ _.
        choose-decided w c x (first_found w c x) (second_found w c x) (free-found w c (first_way x)) (free-found w c (second_way x)) (λ h. well_at w h.sound h.lasts c (first_way x)))

    of : Choice w (Wants (Doom at)) → IsChosen w at
    of y = y.holds
