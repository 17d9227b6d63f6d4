-- What calls leave, whatever their parts find.
use Rattle.std.proofs.Common.{◌≡◌, ℕ, Bool, true, false, cond, ap, sym, subst}
use Rattle.vfs_tree.specs.Steps.{◌>>=◌, ◌>>◌}
use Rattle.vfs_tree.specs.declared.walk.Step.TheVariants.{Go, Refuse, Wants}
use Rattle.vfs_tree.specs.declared.world.World.{World}
use Rattle.call_model.specs.Apply.{Applied, Finished, Needs, settle, apply}
use Rattle.call_model.specs.Checks.{Doing, Outcome}
use Rattle.call_model.specs.Legal.{after, is_no_memory, world_after}
use Rattle.call_model.specs.NameEdits.{is_fail}
use Rattle.call_model.specs.Rows.{check_way, first_way, second_way, first_found, second_found, decided, row}
use Rattle.call_model.specs.declared.call.Call.{Call}
use Rattle.call_model.specs.declared.entry.Entry.TheVariants as entry
use Rattle.call_model.specs.declared.reply.Reply.{Reply}
use Rattle.call_model.specs.declared.reply.Reply.TheVariants as reply
use Rattle.call_laws.proofs.NamedLaws.{no_way}
use Rattle.call_laws.proofs.Parts.{Keeps, Any, found_so, refused, needed, then}
use Rattle.call_laws.proofs.SoundRows.{LeavesSo, AnyNeed}

-- nothing is said of a part
pub any : {A : Type 0} (m : Doing A) → Keeps Any AnyNeed m
any (Go a) = found_so tt
any (Refuse e) = refused
any (Wants x) = needed tt

-- a part of which nothing is said, and then one that takes what it found
pub past : {A B : Type 0} {P : B → Type 0} (m : Doing A) {k : A → Doing B} → ((a : A) → Keeps P AnyNeed (k a)) → Keeps P AnyNeed (m >>= k)
past m more = then m (any m) (λ a _. more a)

-- what a row finds
pub in-row : (P : World × Reply → Type 0) (w : World) (c : ℕ) (call : Call) → Keeps P AnyNeed (decided w c call (first_found w c call) (second_found w c call)) → Keeps P AnyNeed (row w c call)
in-row P w c call h = past (check_way (first_way call) >> check_way (second_way call)) (λ _. h)

-- ---- the world after a call

either : (P : World → Type 0) (b : Bool) (w new : World) → P w → P new → P (cond b w new)
either P true w new p q = p
either P false w new p q = q

settled : (P : World → Type 0) (w : World) (o : Outcome) → P w → Keeps (LeavesSo P) AnyNeed o → P (world_after w (settle w o))
settled P w (Go x) h k = k.holds
settled P w (Refuse e) h k = h
settled P w (Wants x) h k = h

-- a call whose row leaves worlds so, in a world that is so
pub left-so : (P : World → Type 0) (w : World) (c : ℕ) (call : Call) (r : Reply) → P w → Keeps (LeavesSo P) AnyNeed (decided w c call (first_found w c call) (second_found w c call)) → P (after w (entry.Call c call r))
left-so P w c call r h k =
    either P (is_no_memory r) w (world_after w (apply w c call)) h (settled P w (row w c call) h (in-row (LeavesSo P) w c call k))

-- ---- what is done

abbrev failed : Applied → Bool
failed (Finished v r) = is_fail r
failed (Needs x) = true

done_so : (P : World → Type 0) (w new : World) (o : Outcome) → Keeps (LeavesSo P) AnyNeed o → settle w o ≡ Finished new reply.Done → P new
done_so P w new (Go x) k is = subst P (ap (world_after w) is) k.holds
done_so P w new (Refuse e) k is = no_way (sym (ap failed is))
done_so P w new (Wants x) k is = no_way (sym (ap failed is))

-- the world that a call leaves that is done
pub done-so : (P : World → Type 0) (w new : World) (c : ℕ) (call : Call) → Keeps (LeavesSo P) AnyNeed (decided w c call (first_found w c call) (second_found w c call)) → apply w c call ≡ Finished new reply.Done → P new
done-so P w new c call k is = done_so P w new (row w c call) (in-row (LeavesSo P) w c call k) is
