-- What calls that are answered leave, and what their entries tell.
use Rattle.std.proofs.Common.{◌≡◌, ℕ, Bool, true, false, cond, List, [], refl, ap, sym, ◌∙◌, subst}
use Rattle.std.specs.Prelude.{Option, Some, None, is_some}
use Rattle.vfs_tree.specs.Place.{Seen}
use Rattle.vfs_tree.specs.Views.{facts_of}
use Rattle.vfs_tree.specs.declared.errno.Errno.{Errno}
use Rattle.vfs_tree.specs.declared.errno.Errno.TheVariants as errno
use Rattle.vfs_tree.specs.declared.walk.Found.{Found}
use Rattle.vfs_tree.specs.declared.walk.Found.TheVariants as found
use Rattle.vfs_tree.specs.declared.walk.Step.TheVariants.{Go, Refuse, Wants}
use Rattle.vfs_tree.specs.declared.world.World.{World}
use Rattle.call_model.specs.Apply.{Applied, Finished, Needs, settle, apply}
use Rattle.call_model.specs.Checks.{Outcome, is_full, upper_store, place_at, target_at, there, free_target}
use Rattle.call_model.specs.Legal.{world_after}
use Rattle.call_model.specs.NameEdits.{Edit, edited_by, is_fail, call_edits}
use Rattle.call_model.specs.Rows.{first_found, second_found, decided, row}
use Rattle.call_model.specs.declared.call.Call.{Call}
use Rattle.call_model.specs.declared.entry.Entry.TheVariants as entry
use Rattle.call_model.specs.declared.reply.Reply.{Reply}
use Rattle.call_laws.proofs.MountParts.{done_so}
use Rattle.call_laws.proofs.NamedLaws.{no_way}
use Rattle.call_laws.proofs.Parts.{Keeps, found_so, refused, needed, then, unless}
use Rattle.call_laws.proofs.SoundRows.{LeavesSo, AnyNeed}
use Rattle.model_laws.proofs.Leaving.{in-row}
use Rattle.edit_laws.specs.Telling.{Tells}

-- ---- what paths found

pub found_in : (w : World) (dot : Errno) (a : Found) → Keeps (λ t. a ≡ found.In t.dir t.name t.child) AnyNeed (target_at w dot a)
found_in w dot (found.In d n c) = found_so refl
found_in w dot (found.Need x) = unless (is_full w (upper_store w x.mount)) _ (λ _. needed tt)
found_in w dot _ = refused

pub found_place : (w : World) (a : Found) → Keeps (λ p. a ≡ found.At p) AnyNeed (place_at w a)
found_place w (found.At p) = found_so refl
found_place w (found.Need x) = unless (is_full w (upper_store w x.mount)) _ (λ _. needed tt)
found_place w _ = refused

none_so : (o : Option Seen) → is_some o ≡ false → o ≡ None
none_so (Some p) e = no_way (sym e)
none_so None e = refl

pub found_free : (w : World) (a : Found) → Keeps (λ t. a ≡ found.In t.dir t.name None) AnyNeed (free_target w a)
found_free w a =
    then (target_at w errno.EEXIST a) (found_in w errno.EEXIST a) (λ t is.
    unless (is_some t.child) _ (λ none. found_so (is ∙ ap (found.In t.dir t.name) (none_so t.child none))))

pub found_there : (o : Option Seen) → Keeps (λ p. o ≡ Some p) AnyNeed (there o)
found_there (Some p) = found_so refl
found_there None = refused

-- ---- answers

abbrev failed : Applied → Bool
failed (Finished v r) = is_fail r
failed (Needs x) = true

answered : (P : World → Type 0) (w new : World) (r : Reply) → is_fail r ≡ false → (o : Outcome) → Keeps (LeavesSo P) AnyNeed o → settle w o ≡ Finished new r → P new
answered P w new r ok (Go x) k is = subst P (ap (world_after w) is) k.holds
answered P w new r ok (Refuse e) k is = no_way (sym ok ∙ sym (ap failed is))
answered P w new r ok (Wants x) k is = no_way (sym ok ∙ sym (ap failed is))

-- the world that a call leaves that doesn't fail
answered-so : (P : World → Type 0) (w new : World) (c : ℕ) (call : Call) (r : Reply) → is_fail r ≡ false → Keeps (LeavesSo P) AnyNeed (decided w c call (first_found w c call) (second_found w c call)) → apply w c call ≡ Finished new r → P new
answered-so P w new c call r ok k is = answered P w new r ok (row w c call) (in-row (LeavesSo P) w c call k) is

-- the edits give what the new world shows
abbrev pub Shows : World → List Edit → World → Type 0
Shows w es v = facts_of v ≡ edited_by (facts_of w) es

shown_entry : (w new : World) (c : ℕ) (call : Call) (r : Reply) → is_fail r ≡ false → apply w c call ≡ Finished new r → Shows w (call_edits w c call (first_found w c call) (second_found w c call)) new → Tells w (entry.Call c call r)
shown_entry w new c call r ok is h =
    let es = call_edits w c call (first_found w c call) (second_found w c call) in
    ap (λ b. facts_of (cond b w (world_after w (apply w c call)))) (done_so r ok)
    ∙ ap (λ o. facts_of (world_after w o)) is ∙ h
    ∙ sym (ap (λ b. edited_by (facts_of w) (cond b [] es)) ok)

-- a call whose row leaves what its edits give tells
pub told : (w new : World) (c : ℕ) (call : Call) (r : Reply) → is_fail r ≡ false → Keeps (LeavesSo (Shows w (call_edits w c call (first_found w c call) (second_found w c call)))) AnyNeed (decided w c call (first_found w c call) (second_found w c call))
    → apply w c call ≡ Finished new r → Tells w (entry.Call c call r)
told w new c call r ok k is =
    shown_entry w new c call r ok is (answered-so (Shows w (call_edits w c call (first_found w c call) (second_found w c call))) w new c call r ok k is)
