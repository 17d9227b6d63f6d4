-- What comes to an end without want of memory.
use Rattle.std.proofs.Common.{◌≡◌, ℕ, ◌≤◌, refl, subst}
use Rattle.std.specs.Prelude.{Option, Some, None, Result, Ok, Err, IfErr}
use Rattle.call_model.specs.Rows.{first_way, second_way}
use Rattle.call_model.specs.declared.call.Call.{Call}
use Rattle.call_model.specs.declared.call.Call.TheVariants as call
use Rattle.plain_checks.specs.declared.stop.Stop.{Stop}
use Rattle.plain_checks.specs.declared.stop.Stop.TheVariants.{Refused, Needs, NoMemory}
use Rattle.plain_names.specs.Decided.{IsDecided}
use Rattle.plain_calls.specs.Answering.{HasMemory, HoldsBytes, NeedsNoMemory}

decided : (why : Stop) → IsDecided why → why ≡ NoMemory → ⊥
decided (Refused e) h is = cc
decided (Needs x) h is = cc
decided NoMemory h is = h

-- where a call goes no further for a reason that isn't want of memory
pub has_memory : {A : Type 0} (r : Result A Stop) → IfErr r IsDecided → HasMemory r
has_memory (Ok a) h = tt
has_memory (Err why) h = decided why h

-- a call that never wants memory has no path
pub no_first : (call : Call) → NeedsNoMemory call → first_way call ≡ None
no_first (call.Close d) h = refl
no_first (call.Read d n) h = refl
no_first (call.Pread d n o) h = refl
no_first (call.Lseek d w i) h = refl
no_first (call.Fstat d) h = refl
no_first _ h = absurd h

pub no_second : (call : Call) → NeedsNoMemory call → second_way call ≡ None
no_second (call.Close d) h = refl
no_second (call.Read d n) h = refl
no_second (call.Pread d n o) h = refl
no_second (call.Lseek d w i) h = refl
no_second (call.Fstat d) h = refl
no_second _ h = absurd h

-- ---- room

pub held : (n room : ℕ) (o : Option ℕ) → HoldsBytes n o → o ≡ Some room → n ≤ 65536 → n ≤ room
held n room o h is = subst (HoldsBytes n) is h

pub not_held : (n : ℕ) (o : Option ℕ) → HoldsBytes n o → o ≡ None → ⊥
not_held n o h is = subst (HoldsBytes n) is h
