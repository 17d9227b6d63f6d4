-- Which calls are pending around an entry.
use Rattle.std.proofs.Common.{◌≡◌, ℕ, false, cond, ◌==◌, List, ◌∷◌, ap, sym, ◌∙◌}
use Rattle.std.specs.Prelude.{Some, None}
use Rattle.std.specs.Cmp.{nat_cmp_total, unsigned_ties}
use Rattle.std.specs.FinMap.{get, get-insert, get-remove}
use Rattle.finite_maps.proofs.EntryLaws.{get_at-insert}
use Rattle.call_model.specs.Legal.{Pending}
use Rattle.call_model.specs.declared.call.Call.{Call}
use Rattle.call_model.specs.declared.entry.Entry.{Entry}
use Rattle.call_model.specs.declared.entry.Entry.TheVariants as entry
use Rattle.call_model.specs.declared.reply.Reply.{Reply}
use Rattle.call_laws.specs.Prefixes.{pending_before}
use Rattle.call_laws.proofs.WeightLaws.{get_at-remove}
use Rattle.fuel_laws.specs.Ended.{pending_after}

pub ended_own : (p : Pending) (c : ℕ) (call : Call) (r : Reply) → get (pending_after p (entry.Call c call r)) c ≡ None
ended_own p c call r = get_at-remove nat_cmp_total p c

pub ended_others : (p : Pending) (c d : ℕ) (call : Call) (r : Reply) → (d == c) ≡ false → get (pending_after p (entry.Call c call r)) d ≡ get p d
ended_others p c d call r other = get-remove nat_cmp_total p c d ∙ ap (λ b. cond b None (get p d)) (sym (unsigned_ties d c) ∙ other)

pub before_own : (p : Pending) (es : List Entry) (c : ℕ) (call : Call) (r : Reply) → get (pending_before p (entry.Call c call r ∷ es)) c ≡ Some call
before_own p es c call r = get_at-insert nat_cmp_total (pending_before p es) c call

pub before_others : (p : Pending) (es : List Entry) (c d : ℕ) (call : Call) (r : Reply) → (d == c) ≡ false
    → get (pending_before p (entry.Call c call r ∷ es)) d ≡ get (pending_before p es) d
before_others p es c d call r other =
    get-insert nat_cmp_total (pending_before p es) c call d ∙ ap (λ b. cond b (Some call) (get (pending_before p es) d)) (sym (unsigned_ties d c) ∙ other)
