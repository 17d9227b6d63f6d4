-- The inner entries that calls need keep sound worlds lasting.
use Rattle.std.proofs.Common.{◌≡◌, ℕ, false, refl, subst}
use Rattle.vfs_tree.specs.Edits.{new_dir}
use Rattle.vfs_tree.specs.Sound.{IsSound}
use Rattle.vfs_tree.specs.declared.walk.Step.TheVariants.{Wants}
use Rattle.vfs_tree.specs.declared.world.World.{World}
use Rattle.call_model.specs.Checks.{upper_store}
use Rattle.call_model.specs.Effects.{effect}
use Rattle.call_model.specs.Rows.{row}
use Rattle.call_model.specs.declared.call.Call.{Call}
use Rattle.call_model.specs.declared.entry.Inner.{Inner}
use Rattle.call_model.specs.declared.entry.Inner.TheVariants.{Shadow, CopyUp, Detach, Doom}
use Rattle.call_laws.specs.Fitting.{MayNeed, Fits}
use Rattle.call_laws.specs.Lasting.{IsLasting}
use Rattle.call_laws.proofs.CopyLaws.{whole-above, whole-copy}
use Rattle.call_laws.proofs.DetachLaws.{whole-detach}
use Rattle.call_laws.proofs.MountParts.{FreeInner}
use Rattle.call_laws.proofs.NameLaws.{has_room}
use Rattle.call_laws.proofs.Parts.{Keeps}
use Rattle.call_laws.proofs.PlaceLaws.{lasting-doom}
use Rattle.call_laws.proofs.RowLaws.{row_fits, row_free}
use Rattle.call_laws.proofs.SoundLaws.{sound-doom}
use Rattle.call_laws.proofs.Whole.{IsWhole}

whole-inner : (w : World) (c : ℕ) (call : Call) → IsWhole w → (x : Inner) → MayNeed w c call x → FreeInner w x → IsWhole (effect w c x)
whole-inner w c call h (Shadow m u n) may free = whole-above w h m u n (has_room w (upper_store w m) h may) free (new_dir u false) (refl, refl)
whole-inner w c call h (CopyUp m u n) may free = whole-copy w h m u n (has_room w (upper_store w m) h may) (free h)
whole-inner w c call h (Detach m) may free = whole-detach w c m h may.0 free.0 free.1 (free.2 h)
whole-inner w c call h (Doom at) may free = record { sound = sound-doom w at h.sound; lasts = lasting-doom w at h.lasts }

-- what a call needs keeps a sound world lasting
pub whole-needed : (w : World) (c : ℕ) (call : Call) (x : Inner) → row w c call ≡ Wants x → IsWhole w → IsWhole (effect w c x)
whole-needed w c call x needs h =
    whole-inner w c call h x (subst (Fits w c call) needs (row_fits w c call)) (subst (λ o. Keeps (λ u. Unit {0}) (FreeInner w) o) needs (row_free w c call)).holds

pub sound_needed : (w : World) (c : ℕ) (call : Call) (x : Inner) → row w c call ≡ Wants x → IsSound w → IsLasting w → IsSound (effect w c x)
sound_needed w c call x needs s l = (whole-needed w c call x needs (record { sound = s; lasts = l })).sound

pub lasting_needed : (w : World) (c : ℕ) (call : Call) (x : Inner) → row w c call ≡ Wants x → IsSound w → IsLasting w → IsLasting (effect w c x)
lasting_needed w c call x needs s l = (whole-needed w c call x needs (record { sound = s; lasts = l })).lasts
