-- What a step of a call does.
use Rattle.std.specs.Prelude.{ℕ, ◌≡◌, ◌<◌, ◌++◌, ◌∷◌, ◌⊎◌, false, List, [], map, Some}
use Rattle.std.specs.FinMap.{get, remove}
use Rattle.vfs_core.specs.Kernel.{Kernel, work}
use Rattle.vfs_core.specs.declared.kern.Stepped.{Stepped}
use Rattle.vfs_core.specs.declared.kern.Stepped.TheVariants as stepped
use Rattle.call_model.specs.Legal.{is_no_memory}
use Rattle.call_model.specs.declared.call.Call.{Call}
use Rattle.call_model.specs.declared.entry.Entry.{Entry}
use Rattle.call_model.specs.declared.entry.Entry.TheVariants as entry
use Rattle.call_model.specs.declared.entry.Inner.{Inner}
use Rattle.call_model.specs.declared.entry.Inner.TheVariants.{Doom}
use Rattle.call_model.specs.declared.entry.Ref.{Ref}
use Rattle.call_laws.specs.Fitting.{IsRevoke}

-- a caller dooms references, one after the other
abbrev pub dooms : ℕ → List Ref → List Entry
dooms c ats = map (λ at. entry.Inner c (Doom at)) ats

-- The caller's live call went on: an inner entry that it needs stands last, and the work that is left fell. Or it ended: its
-- entry stands last, behind the dooms that it made in this step if it is a revoke, and it is pending no more.
abbrev pub Steps : Kernel → Kernel → ℕ → Stepped → Type 0
Steps old new c stepped.Went =
    (x : Inner) × (new ≡ record old { history = old.history ++ entry.Inner c x ∷ [] }) × (work new < work old)
Steps old new c (stepped.Ended reply) =
    (call : Call) × (ats : List Ref) × (get old.pending c ≡ Some call)
    × (new ≡ record old { history = old.history ++ (dooms c ats ++ entry.Call c call reply ∷ []); pending = remove old.pending c })
    × ((ats ≡ []) ⊎ IsRevoke call)

-- the call ended, and not for want of memory
abbrev pub EndsWithMemory : Stepped → Type 0
EndsWithMemory stepped.Went = ⊥
EndsWithMemory (stepped.Ended reply) = is_no_memory reply ≡ false
